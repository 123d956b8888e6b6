-- A load that only learns changes nothing, whichever caller makes it.
use Rattle.std.proofs.Common.{List, get_or, refl, set, ℕ, ◌≡◌}
use lib.ListN.{get_elem?}
use lib.Seq.{set-get_or}
use mathlib.Core.Option.{some}
use Rattle.nr_model.specs.Histories.{Entry}
use Rattle.nr_core.proofs.Sums.{set_again}
use Rattle.nr_core.specs.Core.{Core}
use Rattle.nr_core.specs.declared.roles.Role.{Role}
use Rattle.nr_core.specs.declared.shape.Shape.{Shape}
use Rattle.nr_core.proofs.Stepping.{stays_quiet}
use Rattle.nr_core.specs.StepLaws.{LearnLaw}

-- a load changes no word, and leaves the roles
pub nothing : {shape : Shape} {words : List ℕ} {roles : List Role} {log : List Entry} (id i : ℕ) {r : Role}
    → Core shape words roles log → get_elem? roles id ≡ some r
    → Core shape (set words i (get_or words i 0)) (set roles id r) log
nothing {words = words} {roles = roles} id i {r = r} core at =
    rw (set-get_or words i 0, set_again roles id r at) core

pub learns : LearnLaw
learns shape id role place words roles log core there = stays_quiet (nothing id place core there) (refl, refl)
