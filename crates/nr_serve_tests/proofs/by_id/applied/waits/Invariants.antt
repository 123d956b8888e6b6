use Rattle.std.proofs.Common.{◌≡◌}
use Rattle.nr_idmap.specs.IdNotes.{note_table_of}
use Rattle.nr_serve_tests.proofs.by_id.applied.waits.Given as goal

abbrev pub ghosts-both : goal.ghosts-both
ghosts-both g a = record { reached = λ _ note. note_table_of note ≡ a.service.now.map }
