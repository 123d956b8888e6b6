-- The writer's calls as the model's.
use Rattle.std.specs.Prelude.{ℕ}
use Rattle.nr_model.specs.declared.calls.Call.{Call}
use Rattle.nr_model.specs.declared.calls.Call.TheVariants as calls
use Rattle.nr_model.specs.Maps.{call_key}
use Rattle.nr_script.specs.declared.alone.writer_calls.WriterCall.{WriterCall}
use Rattle.nr_script.specs.declared.alone.writer_calls.WriterCall.TheVariants as writer

abbrev pub model_call : WriterCall → Call
model_call (writer.Find key) = calls.Find key
model_call (writer.Fill key number rows) = calls.Fill key number rows.now
model_call (writer.Update key batch) = calls.Update key batch.now
model_call (writer.Replace key rows) = calls.Replace key rows.now
model_call (writer.Evict key) = calls.Evict key
model_call (writer.Cancel key) = calls.Cancel key

abbrev pub writer_key : WriterCall → ℕ
writer_key call = call_key (model_call call)
