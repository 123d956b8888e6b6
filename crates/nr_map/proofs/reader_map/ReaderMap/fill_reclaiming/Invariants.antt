use Rattle.nr_core.specs.declared.calls.WriterCall.TheVariants.{Fill}
use Rattle.nr_map.proofs.reader_map.ReaderMap.fill_reclaiming.Given as goal

abbrev pub ghosts-fill_reclaiming : goal.ghosts-fill_reclaiming
ghosts-fill_reclaiming _ a = record { call = Fill a.key a.number a.rows.now }
