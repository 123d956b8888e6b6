use Rattle.std.proofs.Common.{◌≡◌}
use Rattle.nr_serve.specs.Applied.{HasPut}
use Rattle.nr_tour.proofs.server.applied.work.Given as goal

abbrev pub ghosts-tell_and_wait : goal.ghosts-tell_and_wait
ghosts-tell_and_wait g a = record { reached = λ _ note. (note.table ≡ a.server.map) × HasPut 0 note }
