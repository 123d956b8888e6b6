-- What the writer keeps beside the words: the slots that no key names, those that were never taken and the retired
-- ones, the number of each key, and which slots were reaped.
use Rattle.std.specs.Prelude.{◌≡◌, ℕ, ◌+◌, ◌-◌, ◌<◌, ◌≤◌, Bool, true, false, List, [], ◌∷◌, length, Option, Some, None}
use Rattle.std.specs.Prelude.{slice_index, slice_index_or}
use Rattle.nr_core.specs.declared.calls.NoSlot.{NoSlot}
use Rattle.nr_core.specs.declared.places.Retired.{Retired}
use Rattle.nr_core.specs.Roles.{retirements}
use Rattle.nr_core.specs.States.{no_retired}
use Rattle.nr_core.specs.Sums.{only}

-- of that many slots those from `fresh` on were never taken; the retired ones, oldest first
pub record SlotLists : Type 0 where
  pub slots : ℕ
  pub fresh : ℕ
  pub retired : List Retired
  -- the number of each key
  pub numbers : List ℕ
  -- for each slot whether the set in it was given out already
  pub reaped : List Bool

-- every slot is retired, or named by a key
abbrev pub all_taken : SlotLists → NoSlot
all_taken lists = record { live = lists.slots - length lists.retired; held = length lists.retired }

-- the next slot that was never taken, if there is one
abbrev pub TakesFresh : SlotLists → SlotLists → Option ℕ → Type 0
TakesFresh old new (Some slot) =
    (old.fresh < old.slots) × (slot ≡ old.fresh) × (new ≡ record old { fresh = old.fresh + 1 })
TakesFresh old new None = (old.slots ≤ old.fresh) × (new ≡ old)

-- the oldest retired slot, if there is one
abbrev pub TakesOldest : SlotLists → SlotLists → Option Retired → Type 0
TakesOldest old new (Some oldest) = old ≡ record new { retired = oldest ∷ new.retired }
TakesOldest old new None = (old.retired ≡ []) × (new ≡ old)

-- so many of the first retired slots were reaped
abbrev pub AreReaped : ℕ → List Retired → List Bool → Type 0
AreReaped count retired reaped = (count ≤ length retired)
    × ((place : ℕ) → place < count → slice_index_or reaped (slice_index_or retired place no_retired).slot false ≡ true)

-- each slot is retired so often at most, but for those of which two tells nothing
abbrev pub CountsRetirements : ℕ → List Retired → List ℕ → Type 0
CountsRetirements slots retired counts = (length counts ≡ slots)
    × ((slot : ℕ) → slot < slots → slice_index counts slot < 2 → retirements slot retired ≤ slice_index counts slot)

-- the counts once a slot is retired once more: where they still tell something of a slot, they did before
abbrev pub CountsMore : ℕ → List ℕ → List ℕ → Type 0
CountsMore slot old new = (other : ℕ) → other < length old → slice_index new other < 2
    → (slice_index old other < 2) × (only other slot + slice_index old other ≤ slice_index new other)

-- and once it is retired once less
abbrev pub CountsFewer : ℕ → List ℕ → List ℕ → Type 0
CountsFewer slot old new = (other : ℕ) → other < length old → slice_index new other < 2
    → (slice_index old other < 2) × (slice_index old other ≤ only other slot + slice_index new other)
