use Rattle.nr_core.specs.declared.calls.WriterCall.TheVariants.{Fill}
use Rattle.nr_map.proofs.reader_map.ReaderMap.fill_rows.Given as goal

abbrev pub ghosts-fill_key : goal.ghosts-fill_key
ghosts-fill_key a = record { call = Fill a.key a.number a.rows.now }
