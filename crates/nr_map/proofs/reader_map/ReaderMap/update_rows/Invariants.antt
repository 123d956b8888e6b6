use Rattle.nr_core.specs.declared.calls.WriterCall.TheVariants.{Update}
use Rattle.nr_map.proofs.reader_map.ReaderMap.update_rows.Given as goal

abbrev pub ghosts-update_key : goal.ghosts-update_key
ghosts-update_key a = record { call = Update a.key a.deltas.now }
