use Rattle.nr_core.specs.declared.calls.WriterCall.TheVariants.{Update}
use Rattle.nr_map.proofs.reader_map.ReaderMap.update_reclaiming.Given as goal

abbrev pub ghosts-update_reclaiming : goal.ghosts-update_reclaiming
ghosts-update_reclaiming _ a = record { call = Update a.key a.deltas.now }
