-- What a reader's call says of its two tokens, by its answer.
use Rattle.std.specs.Prelude.{◌≡◌, ◌≢◌, ℕ, ◌+◌, ◌*◌, min, List, [], ◌∷◌, length, Option, Some, None}
use Rattle.nr_model.specs.declared.rows.Row.{Row}
use Rattle.nr_board.specs.Holds.{FindsHole, FindsRows}
use Rattle.nr_board.specs.Callers.{Caller}
use Rattle.nr_map.specs.LoadsAhead.{load_of, with_loads}
use Rattle.nr_map.specs.declared.tagged.Tagged.{Tagged}
use Rattle.nr_map.specs.declared.tagged.Tagged.TheVariants as tagged
use Rattle.nr_ids.specs.Answers as ids
use Rattle.nr_ids.specs.Looking.{group_for}
use Rattle.nr_ids.specs.Marks.{LooksAtMark, SetsMark}
use Rattle.nr_ids.specs.Tokens.{Token}
use Rattle.nr_idmap.specs.declared.finds.FoundId.{FoundId}
use Rattle.nr_idmap.specs.declared.finds.FoundId.TheVariants as found
use Rattle.nr_idmap.specs.declared.finds.NamedWay.{NamedWay}
use Rattle.nr_idmap.specs.Keepers.{IdCaller}
use Rattle.nr_idmap.specs.Tags.{tag_of}

-- the word of the first way of the id's group, in whose line the others lie
abbrev pub line_of : ℕ → Token → ℕ
line_of id reader = 8 * group_for reader id

-- that word was loaded, which tells nothing
abbrev pub with_line : ℕ → ℕ → IdCaller → IdCaller
with_line id word reader =
    record reader { caller = with_loads (load_of (line_of id reader.ids) word ∷ []) reader.caller }

-- a look-up of an id's name, and where a way has it one look at that way's mark
abbrev pub LooksForWay : ℕ → Token → Token → Option NamedWay → Type 0
LooksForWay id old new (Some at) =
    (named : Token) × ids.LooksUp id old named (Some at.way) × LooksAtMark at.way at.is_marked named new
LooksForWay id old new None = ids.LooksUp id old new None

-- the set was found in the id's way, and so many of its rows were read: the call's entry in the map's history
abbrev pub FindsInWay : ℕ → NamedWay → ℕ → List Row → IdCaller → Caller → Token → Type 0
FindsInWay id at read set old new looked =
    LooksForWay id old.ids looked (Some at) × FindsRows (2 * read + 1) at.way set old.caller new

-- by the id's name: the rows behind the id's tag, and the way is marked as found unless it was; or the way that had the
-- id's name was a hole, or had another's set, of which the first row alone was read; or within the call there was a
-- moment at which the id had no way
abbrev pub FindsByName : {Room : Type 0} → (Room → List Row → Type 0) → ℕ → IdCaller → Room → IdCaller → Room → FoundId
    → Type 0
FindsByName shows id old before new room found.Rows =
    (at : NamedWay) × (rows : List Row) × (looked : Token)
    × FindsInWay id at (length (tag_of id ∷ rows)) (tag_of id ∷ rows) old new.caller looked
    × SetsMark at.way at.is_marked looked new.ids × shows room rows
FindsByName shows id old before new room found.Pending =
    (at : NamedWay) × LooksForWay id old.ids new.ids (Some at) × FindsHole 0 at.way old.caller new.caller
    × (room ≡ before)
FindsByName shows id old before new room found.Moved =
    (at : NamedWay) × (set : List Row) × FindsInWay id at (min 1 (length set)) set old new.caller new.ids
    × ((rows : List Row) → set ≢ tag_of id ∷ rows) × (room ≡ before)
FindsByName shows id old before new room found.Absent =
    LooksForWay id old.ids new.ids None × (new.caller ≡ old.caller) × (room ≡ before)

-- a find by id: with the line that it will need on its way, the look-up of its name, and the find there
abbrev pub FindsById : {Room : Type 0} → (Room → List Row → Type 0) → ℕ → IdCaller → Room → IdCaller → Room → FoundId
    → Type 0
FindsById shows id old before new room told =
    (word : ℕ) × FindsByName shows id (with_line id word old) before new room told

-- IN THE WAY
-- what a find of the id's tag tells of the id, and that rows mark their way
abbrev pub answer_told : Tagged → FoundId
answer_told tagged.Rows = found.Rows
answer_told tagged.Other = found.Moved
answer_told tagged.Hole = found.Pending

abbrev pub MarksTold : Tagged → NamedWay → Token → Token → Type 0
MarksTold tagged.Rows at old new = SetsMark at.way at.is_marked old new
MarksTold _ at old new = new ≡ old

-- a find by id in the way that was looked up: as `find` says it of that way
abbrev pub FindsInside : {Room : Type 0} → (Room → List Row → Type 0) → ℕ → NamedWay → IdCaller → Room → IdCaller
    → Room → FoundId → Type 0
FindsInside shows id at old before new room found.Rows =
    (rows : List Row)
    × FindsRows (2 * length (tag_of id ∷ rows) + 1) at.way (tag_of id ∷ rows) old.caller new.caller
    × SetsMark at.way at.is_marked old.ids new.ids × shows room rows
FindsInside shows id at old before new room found.Pending =
    FindsHole 0 at.way old.caller new.caller × (new.ids ≡ old.ids) × (room ≡ before)
FindsInside shows id at old before new room found.Moved =
    (set : List Row) × FindsRows (2 * min 1 (length set) + 1) at.way set old.caller new.caller × (new.ids ≡ old.ids)
    × ((rows : List Row) → set ≢ tag_of id ∷ rows) × (room ≡ before)
FindsInside shows id at old before new room found.Absent = ⊥
