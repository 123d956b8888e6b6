-- The roles of callers: whose a role is, which slots it holds, and which slots it keeps.
use Rattle.std.specs.Prelude.{ℕ, suc, zero, ◌+◌, ◌==◌, List, [], ◌∷◌, Bool, false}
use Rattle.nr_core.specs.declared.roles.Role.{Role}
use Rattle.nr_core.specs.declared.roles.Role.TheVariants.{Writer, Reader, Note}
use Rattle.nr_core.specs.declared.roles.Grip.{Grip}
use Rattle.nr_core.specs.declared.roles.Grip.TheVariants.{Nothing, On}
use Rattle.nr_core.specs.declared.places.Retired.{Retired}
use Rattle.nr_core.specs.declared.places.Place.{Place}
use Rattle.nr_core.specs.declared.places.Place.TheVariants.{Putting}
use Rattle.nr_core.specs.Sums.{total, only}
use Rattle.nr_core.specs.Slots.{unused}

-- whether the role is that caller's; 1 for a writer; 1 for a reader
abbrev pub is_by : ℕ → Role → Bool
is_by caller (Writer desk) = 0 == caller
is_by caller (Reader reader grip) = reader == caller
is_by caller Note = false

abbrev pub is_writer : Role → ℕ
is_writer (Writer desk) = 1
is_writer other = 0

abbrev pub is_reader : Role → ℕ
is_reader (Reader reader grip) = 1
is_reader other = 0

-- 1 where the reader holds the slot
abbrev pub grips : ℕ → Grip → ℕ
grips slot Nothing = 0
grips slot (On held rows sized) = only slot held

abbrev pub holds : ℕ → Role → ℕ
holds slot (Reader reader grip) = grips slot grip
holds slot other = 0

-- how many callers hold the slot
abbrev pub held : List Role → ℕ → ℕ
held roles slot = total (holds slot) roles

-- 1 where the writer's call has taken the slot; how often it is retired
abbrev pub taken : ℕ → Place → ℕ
taken slot (Putting call rows mine departed index) = only slot mine
taken slot other = 0

abbrev pub retirements : ℕ → List Retired → ℕ
retirements slot retired = total (λ entry. only slot entry.slot) retired

-- how often the slot is free, retired or taken
abbrev pub keeps : ℕ → Role → ℕ
keeps slot (Writer desk) = unused slot desk.fresh + retirements slot desk.retired + taken slot desk.place
keeps slot other = 0

-- that many readers that hold nothing, from one number on
abbrev pub readers_from : ℕ → ℕ → List Role
readers_from before zero = []
readers_from before (suc more) = Reader (suc before) Nothing ∷ readers_from (suc before) more
