use Rattle.std.proofs.Common.{◌≡◌}
use Rattle.nr_serve_tests.proofs.applied.waits.Given as goal

abbrev pub ghosts-both : goal.ghosts-both
ghosts-both g a = record { reached = λ _ note. note.table ≡ a.service.now.map }
