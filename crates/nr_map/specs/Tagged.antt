-- What a find of a set that begins with a tag says of its reader, by its answer.
use Rattle.std.specs.Prelude.{◌≡◌, ◌≢◌, ℕ, ◌+◌, ◌*◌, min, false, List, ◌∷◌, length}
use Rattle.nr_model.specs.declared.rows.Row.{Row}
use Rattle.nr_model.specs.Rows.{IsRowSet}
use Rattle.nr_board.specs.Callers.{Caller}
use Rattle.nr_board.specs.Holds.{FindsHole, FindsRows}
use Rattle.nr_board.specs.declared.answers.Found.{Found}
use Rattle.nr_board.specs.declared.answers.Found.TheVariants as found
use Rattle.nr_map.specs.Hands.{FindsAndReads, Handed, KeepsAnew, LetsGoAndFinds}
use Rattle.nr_map.specs.declared.tagged.Tagged.{Tagged}
use Rattle.nr_map.specs.declared.tagged.Tagged.TheVariants as tagged

-- the set begins with the tag
abbrev pub IsTagged : Row → List Row → Type 0
IsTagged tag set = (rows : List Row) × (set ≡ tag ∷ rows)

-- with the tag's set it reads every row, and the room shows those behind the tag; of another set it reads no row but
-- the first, and the room stays
abbrev pub FindsTagged : {Room : Type 0} → (Room → List Row → Type 0) → Row → ℕ → Caller → Room → Caller → Room → Tagged
    → Type 0
FindsTagged shows tag key old before new room tagged.Rows =
    (rows : List Row) × FindsRows (2 * length (tag ∷ rows) + 1) key (tag ∷ rows) old new × shows room rows
    × IsRowSet old.table.shape.rows (tag ∷ rows)
FindsTagged shows tag key old before new room tagged.Other =
    (set : List Row) × FindsRows (2 * min 1 (length set) + 1) key set old new
    × ((rows : List Row) → set ≢ tag ∷ rows) × (room ≡ before)
FindsTagged shows tag key old before new room tagged.Hole = FindsHole 0 key old new × (room ≡ before)

-- as a find's answer: whatever set the key has, it was found
abbrev pub found_of : Tagged → Found
found_of tagged.Rows = found.Rows
found_of tagged.Other = found.Rows
found_of tagged.Hole = found.Hole

-- a hand that finds so, and holds nothing then
abbrev pub LetsGoAndFindsTagged : {Room : Type 0} → (Room → List Row → Type 0) → Row → ℕ → Handed → Room → Handed → Room
    → Tagged → Type 0
LetsGoAndFindsTagged shows tag key old before new room answer =
    LetsGoAndFinds (λ reader next. FindsTagged shows tag key reader before next room answer) key (found_of answer)
    old new

-- A hand that finds so and keeps its hold: it holds the key's set then, whichever it is, or nothing at a hole. Of it
-- the first row alone was read.
abbrev pub KeepsTagged : Row → ℕ → Handed → Handed → Tagged → Type 0
KeepsTagged tag key old new tagged.Rows = IsTagged tag new.rows × FindsAndReads 2 key old new
KeepsTagged tag key old new tagged.Other =
    (IsTagged tag new.rows → ⊥) × FindsAndReads (2 * min 1 (length new.rows)) key old new
KeepsTagged tag key old new tagged.Hole = KeepsAnew key old new false

-- and then the others too, into a room
abbrev pub FindsTaggedKept : {Room : Type 0} → (Room → List Row → Type 0) → Row → ℕ → Handed → Room → Handed → Room
    → Tagged → Type 0
FindsTaggedKept shows tag key old before new room tagged.Rows =
    (rows : List Row) × (new.rows ≡ tag ∷ rows) × FindsAndReads (2 * length (tag ∷ rows)) key old new × shows room rows
FindsTaggedKept shows tag key old before new room tagged.Other =
    KeepsTagged tag key old new tagged.Other × (room ≡ before)
FindsTaggedKept shows tag key old before new room tagged.Hole =
    KeepsTagged tag key old new tagged.Hole × (room ≡ before)
