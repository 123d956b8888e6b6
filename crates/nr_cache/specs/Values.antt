-- What stands for a value in the map: one row behind its id's tag.
use Rattle.std.specs.Prelude.{◌≡◌, ◌+◌, ◌≤◌, ℕ, List, [], ◌∷◌, All}
use Rattle.nr_model.specs.declared.rows.Row.{Row}
use Rattle.nr_model.specs.declared.calls.Call.{Call}
use Rattle.nr_model.specs.declared.calls.Call.TheVariants.{Find, Ask, Fill, Update, Replace, Evict, Cancel}
use Rattle.nr_model.specs.Maps.{filled_count}
use Rattle.nr_board.specs.Callers.{Table, map_seen}
use Rattle.nr_idmap.specs.Keepers.{Keeper}
use Rattle.nr_idmap.specs.Tags.{tag_of}

-- the row of a value with its stamp
abbrev pub row_of : ℕ → ℕ → Row
row_of stamp value = record { a = stamp; b = value }

-- the set of an id's value
abbrev pub set_of : ℕ → ℕ → ℕ → List Row
set_of id stamp value = tag_of id ∷ row_of stamp value ∷ []

-- the set is that of some value
abbrev pub IsValueSet : List Row → Type 0
IsValueSet set = (id stamp value : ℕ) × (set ≡ set_of id stamp value)

-- the set that a call brings is a value's
abbrev pub BringsValue : Call → Type 0
BringsValue (Find key) = Unit {0}
BringsValue (Ask key) = Unit {0}
BringsValue (Fill key number rows) = IsValueSet rows
BringsValue (Update key batch) = ⊥
BringsValue (Replace key rows) = IsValueSet rows
BringsValue (Evict key) = Unit {0}
BringsValue (Cancel key) = Unit {0}

-- so is each that the writer ever brought
abbrev pub BringsValues : Keeper → Type 0
BringsValues keeper = All (λ entry. BringsValue entry.call) keeper.writer.mine

-- how many there are in all that the writer has seen, and that they are no more than may be
abbrev pub values_in : Keeper → ℕ
values_in keeper = filled_count (map_seen keeper.writer)

abbrev pub IsWithin : ℕ → Keeper → Type 0
IsWithin capacity keeper = values_in keeper ≤ capacity

-- a slot for each of so many values, each reader and one more
abbrev pub HasSlots : ℕ → Table → Type 0
HasSlots values map = values + map.shape.readers + 1 ≤ map.shape.slots
