use Rattle.nr_core.specs.declared.calls.WriterCall.TheVariants.{Evict}
use Rattle.nr_map.proofs.reader_map.ReaderMap.evict.Given as goal

abbrev pub ghosts-evict_key : goal.ghosts-evict_key
ghosts-evict_key a = record { call = Evict a.key }
