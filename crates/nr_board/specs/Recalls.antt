-- The writer reads the set that was put into a slot last, word by word. No step of it is an entry, and it learns
-- nothing of the history.
use Rattle.std.specs.Prelude.{◌≡◌, ℕ, ◌+◌, ◌<◌, List, length, slice_index}
use Rattle.nr_model.specs.Rows.{IsRowSet}
use Rattle.nr_model.specs.declared.rows.Row.{Row}
use Rattle.nr_words.specs.SetWords.{encode}
use Rattle.nr_core.specs.Slots.{bound_of, content}
use Rattle.nr_core.specs.declared.roles.Desk.{Desk}
use Rattle.nr_core.specs.declared.roles.Role.TheVariants.{Writer}
use Rattle.nr_core.specs.Marked.{Untouched}
use Rattle.nr_core.specs.Marks.{set_in}
use Rattle.nr_board.specs.Callers.{Table, token}
use Rattle.nr_board.specs.Notes.{has_noted}
use Rattle.nr_board.specs.Plays.{Then}
use Rattle.nr_board.specs.Views.{View, carried_by, view_of}
use Rattle.nr_board.specs.WriterSeats.{MapSeat}

-- the word at an index of the set that was put into a slot last; the index may lie behind the set
abbrev pub IsWordOf : ℕ → List Row → ℕ → ℕ → Type 0
IsWordOf bound rows index found =
    IsRowSet bound rows × (index < length (encode rows) → found ≡ slice_index (encode rows) index)

-- a load of a content word of a slot into which the writer's call has put no word finds the set that was put there
-- last; else the token counts the step alone
pub record Recalled (place found : ℕ) (old new : View) : Type 0 where
  pub step : new ≡ has_noted old
  pub finds : (desk : Desk) (slot index : ℕ) → old.role ≡ Writer desk → slot < old.shape.slots
      → Untouched slot desk.place → place ≡ content old.shape slot index
      → IsWordOf (bound_of old.shape) (set_in old.marks slot) index found

abbrev pub has_recalled : Then
has_recalled step (before, _) found (after, _) = Recalled step.word found before after

-- the writer's seat, whose call has put no word into the slot
pub record RecallsAt (table : Table) (slot : ℕ) (seat : MapSeat) : Type 0 where
  pub own : (token seat).table ≡ table
  pub desk : Desk
  pub role : (view_of seat).role ≡ Writer desk
  pub inside : slot < table.shape.slots
  pub untouched : Untouched slot desk.place

-- the seat after that many steps that tell it nothing
abbrev pub waited : ℕ → View → View
waited steps view = record view { steps = view.steps + steps }

abbrev pub later : ℕ → MapSeat → MapSeat
later steps seat = record seat { me = (waited steps (view_of seat), carried_by seat) }

-- it has read how many rows the slot's set has
pub record RecallsRows (table : Table) (slot : ℕ) (seat : MapSeat) : Type 0 where
  pub at : RecallsAt table slot seat
  pub row_set : IsRowSet (bound_of table.shape) (set_in (view_of seat).marks slot)
