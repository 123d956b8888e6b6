-- The two groups of an id, as C is told them.
use Rattle.std.specs.Prelude.{ℕ, ◌≡◌, ◌⊎◌}
use Rattle.nr_ids.specs.declared.plan.Plan.{Plan}
use Rattle.nr_ids.specs.Groups.{IsBadPlan, IsPlan, group_of, second_of}
use Rattle.nr_c.specs.declared.id_shape.NrIdShape.{NrIdShape}

abbrev pub plan_of_shape : NrIdShape → Plan
plan_of_shape shape = record { groups = shape.groups; key = shape.key }

-- the directory's group of the id, and 0 where an opening refuses the number of groups
abbrev pub TellsGroup : NrIdShape → ℕ → ℕ → Type 0
TellsGroup shape id told =
    (IsPlan (plan_of_shape shape) × (told ≡ group_of (plan_of_shape shape) id))
    ⊎ (IsBadPlan (plan_of_shape shape) × (told ≡ 0))

abbrev pub TellsSecondGroup : NrIdShape → ℕ → ℕ → Type 0
TellsSecondGroup shape id told =
    (IsPlan (plan_of_shape shape) × (told ≡ second_of (plan_of_shape shape) id))
    ⊎ (IsBadPlan (plan_of_shape shape) × (told ≡ 0))
