use Rattle.nr_core.specs.declared.calls.WriterCall.TheVariants.{Replace}
use Rattle.nr_map.proofs.reader_map.ReaderMap.replace_rows.Given as goal

abbrev pub ghosts-replace_key : goal.ghosts-replace_key
ghosts-replace_key a = record { call = Replace a.key a.rows.now }
