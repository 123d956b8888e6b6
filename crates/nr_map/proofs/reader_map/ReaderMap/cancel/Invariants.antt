use Rattle.nr_core.specs.declared.calls.WriterCall.TheVariants.{Cancel}
use Rattle.nr_map.proofs.reader_map.ReaderMap.cancel.Given as goal

abbrev pub ghosts-cancel_key : goal.ghosts-cancel_key
ghosts-cancel_key a = record { call = Cancel a.key }
