-- What a step of the writer comes to, told without a set.
use Rattle.std.specs.Prelude.{List, Result, Ok, Err}
use Rattle.nr_model.specs.declared.rows.Row.{Row}
use Rattle.nr_core.specs.declared.calls.Refusal.{Refusal}
use Rattle.nr_core.specs.declared.calls.Step.{Step}
use Rattle.nr_core.specs.declared.outcome.Outcome.{Outcome}
use Rattle.nr_core.specs.declared.outcome.Outcome.TheVariants.{Going, NoSlot, Rows, Hole, Done, NotAsked, Stale}
use Rattle.nr_core.specs.declared.outcome.Outcome.TheVariants.{Already, Dropped, NoRow, TooMany, Evicted, Nothing}
use Rattle.nr_core.specs.declared.outcome.Outcome.TheVariants.{Cancelled, Worn}
use Rattle.nr_core.specs.Writer.{ended}
use Rattle.nr_model.specs.declared.calls.Reply.TheVariants as reply
use Rattle.nr_core.specs.declared.calls.Step.TheVariants as step
use Rattle.nr_core.specs.declared.calls.WReply.TheVariants as writer

-- the answer, where a find found these rows
abbrev pub step_of : List Row → Outcome → Step
step_of rows Going = step.Going
step_of rows (NoSlot counts) = step.Ended (writer.NoSlot counts)
step_of rows Rows = ended (reply.Rows rows)
step_of rows Hole = ended reply.Hole
step_of rows Done = ended reply.Done
step_of rows NotAsked = ended reply.NotAsked
step_of rows Stale = ended reply.Stale
step_of rows Already = ended reply.Already
step_of rows Dropped = ended reply.Dropped
step_of rows NoRow = ended reply.NoRow
step_of rows TooMany = ended reply.TooMany
step_of rows Evicted = ended reply.Evicted
step_of rows Nothing = ended reply.Nothing
step_of rows Cancelled = ended reply.Cancelled
step_of rows Worn = ended reply.Worn

-- the same, or the refusal
abbrev pub step_or_refusal : List Row → Result Outcome Refusal → Result Step Refusal
step_or_refusal rows (Ok outcome) = Ok (step_of rows outcome)
step_or_refusal rows (Err why) = Err why
