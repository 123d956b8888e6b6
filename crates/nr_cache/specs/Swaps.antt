-- A value in place of one that is still there.
use Rattle.std.specs.Prelude.{◌≡◌, ◌≢◌, ◌<◌, ◌⊎◌, ℕ, true, List, Some, None}
use Rattle.nr_model.specs.declared.rows.Row.{Row}
use Rattle.nr_board.specs.declared.answers.Reclaimed.{Reclaimed}
use Rattle.nr_cache.specs.declared.finds.FoundValue.{FoundValue}
use Rattle.nr_cache.specs.declared.swaps.Swapped.{Swapped}
use Rattle.nr_cache.specs.declared.swaps.Swapped.TheVariants as swapped
use Rattle.nr_cache.specs.Flights.{is_changing}
use Rattle.nr_cache.specs.StoreSeen.{StoreSeen}
use Rattle.nr_cache.specs.Stores.{Looks, PutsHeld, PutsOwn}

-- the id was looked at, and has this value
pub record FindsOld (id was : ℕ) (old new : StoreSeen) : Type 0 where
  pub found : FoundValue
  pub looks : Looks id old new (Some found)
  pub same : found.value ≡ was

module _ {Room : Type 0} (shows : Room → List Row → Type 0) where
  -- it was put in the other's place
  pub record SwapsHeld (id was stamp value weight bound : ℕ) (old : StoreSeen) (before : Room) (new : StoreSeen)
      (room : Room) (given : Reclaimed) : Type 0 where
    pub mid : StoreSeen
    pub finds : FindsOld id was old mid
    pub puts : PutsHeld shows id stamp value weight bound mid before new room given

  -- or the id is being changed, or the value is heavier than all may be, and the id loses what it has
  pub record SwapsOwn (id was weight : ℕ) (old : StoreSeen) (before : Room) (new : StoreSeen) (room : Room) : Type 0
    where
      pub mid : StoreSeen
      pub finds : FindsOld id was old mid
      pub why : (is_changing id old.underway ≡ true) ⊎ (old.load.most < weight)
      pub puts : PutsOwn shows id weight mid before new room

  -- else the look was all
  abbrev pub Swaps : ℕ → ℕ → ℕ → ℕ → ℕ → ℕ → StoreSeen → Room → StoreSeen → Room → Swapped → Type 0
  Swaps id was stamp value weight bound old before new room (swapped.Held given) =
      SwapsHeld id was stamp value weight bound old before new room given
  Swaps id was stamp value weight bound old before new room swapped.Own = SwapsOwn id was weight old before new room
  Swaps id was stamp value weight bound old before new room (swapped.Other found) =
      Looks id old new (Some found) × (found.value ≢ was) × (room ≡ before)
  Swaps id was stamp value weight bound old before new room swapped.Absent = Looks id old new None × (room ≡ before)
