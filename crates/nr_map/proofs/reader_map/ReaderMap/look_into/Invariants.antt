use Rattle.nr_core.specs.declared.calls.WriterCall.TheVariants.{Find}
use Rattle.nr_map.proofs.reader_map.ReaderMap.look_into.Given as goal

abbrev pub ghosts-look_up : goal.ghosts-look_up
ghosts-look_up g a = record { call = Find a.key }
