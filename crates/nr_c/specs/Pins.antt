-- A reader that holds a set, as C calls it.
use Rattle.std.specs.Prelude.{ℕ, ◌*◌, ◌≡◌, ◌≤◌, ◌⊎◌, Bool, true, false, if◌then◌else◌, length, slice_get, Some}
use Rattle.nr_model.specs.declared.rows.Row.{Row}
use Rattle.nr_map.specs.Hands.{AgainByHand, CopiesHeld, LetsGo, PinsByHand, held_for}
use Rattle.nr_c.specs.Numbers.{answer_done, answer_hole, answer_no_row, answer_other, answer_rows}
use Rattle.nr_c.specs.declared.reader_side.ReaderSide.{ReaderSide}
use Rattle.nr_c.specs.declared.rows.NrRows.{NrRows}
use Rattle.nr_c.specs.Hands.{HoldsNone, HoldsSome}
use Rattle.nr_c.specs.Live.{Call, HearsHand, TurnsHand}
use Rattle.nr_c.specs.RowCells.{ShowsSet}

-- a pin by its code: the reader holds the set of the key, and how many rows it has is told; or the key was a hole
abbrev pub PinsCells : ℕ → ℕ → ℕ → Call ReaderSide
PinsCells key told tells before after code =
    ((code ≡ answer_rows)
    × TurnsHand (λ old new. HoldsNone old × PinsByHand key old new true × (tells ≡ length new.rows)) before after)
    ⊎ HearsHand answer_hole code (λ old new. HoldsNone old × PinsByHand key old new false × (tells ≡ told)) before after

-- a row of the held set by its code; the reader holds the same set
abbrev pub ReadsRow : ℕ → Row → Row → Call ReaderSide
ReadsRow place stood stands before after code =
    ((code ≡ answer_rows)
    × TurnsHand (λ old new. (slice_get old.rows place ≡ Some stands) × CopiesHeld 2 old new) before after)
    ⊎ ((code ≡ answer_no_row)
    × TurnsHand (λ old new. (new ≡ old) × (length old.rows ≤ place) × (stands ≡ stood)) before after)

-- a copy of the held set by its code: the caller's cells show its rows, and the reader holds it still
abbrev pub CopiesSet : NrRows → Call ReaderSide
CopiesSet rows before after code =
    (code ≡ answer_rows)
    × TurnsHand (λ old new. ShowsSet rows old.rows × CopiesHeld (2 * length old.rows) old new) before after

-- a find again by its code, of a reader that takes what it holds for a set of the key; it holds the same set
abbrev pub FindsByHold : ℕ → Call ReaderSide
FindsByHold key before after code =
    (found : Bool) × (code ≡ (if found then answer_rows else answer_other))
    × TurnsHand (λ old new. HoldsSome old × AgainByHand key (held_for key old) new found) before after

-- the hold ends
abbrev pub Releases : Call ReaderSide
Releases before after code =
    (code ≡ answer_done) × TurnsHand (λ old new. HoldsSome old × LetsGo old new) before after
