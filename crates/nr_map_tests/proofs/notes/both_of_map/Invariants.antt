use Rattle.std.proofs.Common.{◌≡◌}
use Rattle.nr_map_tests.proofs.notes.both_of_map.Given as goal

abbrev pub ghosts-both : goal.ghosts-both
ghosts-both g a = record { takes = λ note. note.table ≡ a.map.now }
