-- The tag of a set: a first row that says whose rows the others are. An id's own rows have an `a` above 0, so the tag
-- comes first, and no update touches it.
use Rattle.std.specs.Prelude.{◌≡◌, ◌≢◌, ℕ, ◌<◌, Bool, true, false, List, [], ◌∷◌, All, Option, Some, None}
use Rattle.nr_model.specs.declared.rows.Row.{Row}
use Rattle.nr_model.specs.declared.batches.Delta.{Delta}
use Rattle.nr_model.specs.declared.states.KeyState.{KeyState}
use Rattle.nr_model.specs.declared.states.KeyState.TheVariants.{Rows}
use Rattle.nr_model.specs.Maps.{PartialMap, state_of}
use Rattle.nr_model.specs.Rows.{IsRowSet}
use Rattle.nr_map.specs.Tagged.{IsTagged}

abbrev pub tag_of : ℕ → Row
tag_of id = record { a = 0; b = id }

-- an id with its rows
pub record IdSet : Type 0 where
  pub id : ℕ
  pub rows : List Row

-- the rows behind the tag are the id's
abbrev pub set_told : List Row → Option IdSet
set_told [] = None
set_told (tag ∷ rows) = Some (record { id = tag.b; rows = rows })

-- whose rows a key has, and which
abbrev pub id_set_of : KeyState → Option IdSet
id_set_of (Rows number rows) = set_told rows
id_set_of _ = None

abbrev pub set_at : PartialMap → ℕ → Option IdSet
set_at map key = id_set_of (state_of map key)

-- the key has the id's tag, and behind it these rows
abbrev pub KeepsId : PartialMap → ℕ → ℕ → List Row → Type 0
KeepsId map key id rows = (number : ℕ) × (state_of map key ≡ Rows number (tag_of id ∷ rows))

-- some key has them
abbrev pub IsResident : PartialMap → ℕ → List Row → Type 0
IsResident map id rows = (key : ℕ) × KeepsId map key id rows

-- the set begins with the id's tag
abbrev pub HasTag : ℕ → List Row → Type 0
HasTag id set = IsTagged (tag_of id) set

-- the rows behind a set's tag
abbrev pub rows_behind : List Row → List Row
rows_behind [] = []
rows_behind (tag ∷ rows) = rows

-- the room shows the rows behind the id's tag; without the tag it stays
abbrev pub CopiesBehind : {Room : Type 0} → (Room → List Row → Type 0) → ℕ → List Row → Room → Room → Bool → Type 0
CopiesBehind shows id set before after true = (rows : List Row) × (set ≡ tag_of id ∷ rows) × shows after rows
CopiesBehind shows id set before after false = ((rows : List Row) → set ≢ tag_of id ∷ rows) × (after ≡ before)

-- none of these rows looks like a tag
abbrev pub AreIdRows : List Row → Type 0
AreIdRows rows = All (λ row. 0 < row.a) rows

-- an id's rows, of which it may have as many as the bound says
abbrev pub IsIdSet : ℕ → List Row → Type 0
IsIdSet bound rows = IsRowSet bound rows × AreIdRows rows

-- a batch for an id's rows
abbrev pub AreIdDeltas : List Delta → Type 0
AreIdDeltas deltas = All (λ delta. 0 < delta.row.a) deltas
