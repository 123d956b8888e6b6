use Rattle.nr_core.specs.declared.calls.WriterCall.TheVariants.{Replace}
use Rattle.nr_map.proofs.reader_map.ReaderMap.replace_reclaiming.Given as goal

abbrev pub ghosts-replace_reclaiming : goal.ghosts-replace_reclaiming
ghosts-replace_reclaiming _ a = record { call = Replace a.key a.rows.now }
