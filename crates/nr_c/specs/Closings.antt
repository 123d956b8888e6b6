-- Whether a map's writer was closed: one word of the map's handles, and what each of them did there and knows by it.
use Rattle.std.specs.Prelude.{ℕ, ◌≡◌, ◌≢◌, ◌+◌, ◌==◌, ◌⊎◌, min, Bool, true, false, if◌then◌else◌, length, slice_index}
use mathlib.Core.Option.{some}
use lib.ListN.{get_elem?}
use Rattle.atomic_table.specs.Seated.{TableId}
use Rattle.atomic_table.specs.Table.{Me, State, Step}
use Rattle.atomic_table.specs.declared.shared.Seat.{Seat}
use Rattle.nr_core.specs.Sums.{total}
use Rattle.nr_c.specs.Numbers.{answer_closed, answer_rows}

-- how often a handle looked, whether it was told that the writer was closed, and how often it closed it
pub record Visit : Type 0 where
  pub looks : ℕ
  pub told : Bool
  pub closes : ℕ

pub record Watched : Type 0 where
  -- the word of its map
  pub word : TableId
  pub looks : ℕ
  pub told : Bool
  pub closes : ℕ

abbrev pub new_visit : Visit
new_visit = record { looks = 0; told = false; closes = 0 }

-- the word is 0 until a handle closes the writer, and 1 from then on, which is what handles were told
pub record SaysClosed (state : State (Unit {0}) Visit) : Type 0 where
  pub size : length state.words ≡ 1
  pub says : slice_index state.words 0 ≡ min 1 (total (λ visit. visit.closes) state.views)
  pub told : (id : ℕ) (visit : Visit) → get_elem? state.views id ≡ some visit → visit.told ≡ true
      → slice_index state.words 0 ≡ 1

-- the steps: a new handle, a look, and the closing
abbrev pub has_entered : Step (Unit {0}) → Me (Unit {0}) Visit → ℕ → Me (Unit {0}) Visit → Type 0
has_entered step old found (new, _) = new ≡ new_visit

abbrev pub has_looked : Step (Unit {0}) → Me (Unit {0}) Visit → ℕ → Me (Unit {0}) Visit → Type 0
has_looked step (old, _) found (new, _) =
    (new.looks ≡ old.looks + 1) × (new.closes ≡ old.closes) × (new.told ≡ (found == 1))
    × (old.told ≡ true → new.told ≡ true)

abbrev pub has_closed : Step (Unit {0}) → Me (Unit {0}) Visit → ℕ → Me (Unit {0}) Visit → Type 0
has_closed step (old, _) found (new, _) =
    (new.looks ≡ old.looks) × (new.closes ≡ old.closes + 1) × (new.told ≡ old.told)

abbrev pub watched_by : {S : Type 0} → Seat S Visit → Watched
watched_by seat =
    record { word = seat.table_id; looks = seat.me.0.looks; told = seat.me.0.told; closes = seat.me.0.closes }

-- a handle that did nothing yet
pub record IsNewWatch (watch : Watched) : Type 0 where
  pub looks : watch.looks ≡ 0
  pub told : watch.told ≡ false
  pub closes : watch.closes ≡ 0

-- one look, which tells whether the writer was closed; who was told so is told so again
pub record Looks (old new : Watched) (closed : Bool) : Type 0 where
  pub word : new.word ≡ old.word
  pub looks : new.looks ≡ old.looks + 1
  pub closes : new.closes ≡ old.closes
  pub told : new.told ≡ closed
  pub again : old.told ≡ true → closed ≡ true

-- the closing
pub record Closes (old new : Watched) : Type 0 where
  pub word : new.word ≡ old.word
  pub looks : new.looks ≡ old.looks
  pub closes : new.closes ≡ old.closes + 1
  pub told : new.told ≡ old.told

-- what a reader is told: rows as they are found, without a look; in place of any other answer, if one look tells that
-- the writer was closed, just that
abbrev pub Hears : ℕ → ℕ → Watched → Watched → Type 0
Hears answer code old new =
    ((answer ≡ answer_rows) × (code ≡ answer_rows) × (new ≡ old))
    ⊎ ((answer ≢ answer_rows) × (closed : Bool) × (code ≡ (if closed then answer_closed else answer))
    × Looks old new closed)
