-- The slots that a search or a reap polls in vain: each is held, by another reader.
use Rattle.std.specs.Prelude.{◌≡◌, ℕ, ◌+◌, ◌<◌, ◌≤◌, List, [], ◌++◌, Some, length}
use mathlib.Core.Option.{some}
use lib.ListN.{get_elem?}
use Rattle.nr_core.specs.declared.places.Retired.{Retired}
use Rattle.nr_core.specs.Marks.{LoggedLoad, Past, with_scan}
use Rattle.nr_core.specs.MarkSteps.{NotedNowhereElse}
use Rattle.nr_core.specs.PollNotes.{AllHeld}
use Rattle.nr_board.specs.Callers.{Grows, token}
use Rattle.nr_board.specs.Polls.{HeldThen}
use Rattle.nr_board.specs.SlotLists.{held_polls}
use Rattle.nr_board.specs.Views.{View, view_of}
use Rattle.nr_board.specs.WriterSeats.{MapSeat}

-- each of these slots was polled, in their order, and held by one of that many readers, each by another one
pub record HeldEach (readers : ℕ) (slots : List Retired) (notes : List Past) : Type 0 where
  pub held : AllHeld slots notes
  pub range : (at : ℕ) (note : Past) → get_elem? notes at ≡ some note → (0 < note.reader) × (note.reader ≤ readers)

-- these slots were polled, and each was held, by a reader that no earlier note has at another slot
pub record HeldTo (slots : List Retired) (old new : View) : Type 0 where
  pub notes : List Past
  pub each : HeldEach old.shape.readers slots notes
  pub elsewhere : (at : ℕ) (note : Past) → get_elem? notes at ≡ some note → NotedNowhereElse old.marks.polls note
  pub marks : new.marks ≡ with_scan old.marks (old.marks.polls ++ notes) (old.marks.loads ++ held_polls slots)

-- as a search polls them: each poll is a step that learns the history so far, by which the noted reader held its slot
pub record InVain (slots : List Retired) (before now : MapSeat) : Type 0 where
  pub held : HeldTo slots (view_of before) (view_of now)
  pub holders : (at slot : ℕ) (note : Past) → get_elem? held.notes at ≡ some note → note.slot ≡ Some slot
      → HeldThen (view_of before).seen (view_of now).seen slot note
  pub grows : Grows (length slots) [] (token before) (token now)
  pub heard : (view_of now).heard ≡ (view_of before).heard

-- such polls, and one that found that nobody holds the slot
pub record FindsFree (loads : List LoggedLoad) (before now : MapSeat) : Type 0 where
  pub few : length loads ≤ (view_of before).shape.readers + 1
  pub grows : Grows (length loads) [] (token before) (token now)
  pub marks : (view_of now).marks
      ≡ with_scan (view_of before).marks (view_of now).marks.polls ((view_of before).marks.loads ++ loads)
  pub heard : (view_of now).heard ≡ (view_of before).heard
