-- What the polls of a call note: of each slot that was found held, a reader that held it.
use Rattle.std.specs.Prelude.{◌≡◌, ℕ, ◌+◌, ◌<◌, ◌≤◌, List, [], ◌∷◌, ◌++◌, length, Some}
use mathlib.Core.Option.{some}
use lib.ListN.{get_elem?}
use Rattle.nr_model.specs.Maps.{reply_to, filled_count}
use Rattle.nr_model.specs.Histories.{Entry}
use Rattle.nr_core.specs.declared.shape.Shape.{Shape}
use Rattle.nr_core.specs.declared.calls.WriterCall.{WriterCall}
use Rattle.nr_core.specs.declared.places.Retired.{Retired}
use Rattle.nr_core.specs.Sums.{total, only}
use Rattle.nr_core.specs.Roles.{retirements}
use Rattle.nr_core.specs.Story.{call_of, map_after}
use Rattle.nr_core.specs.Marks.{Past}
use Rattle.nr_model.specs.declared.calls.Reply.TheVariants as reply

-- the polls found every retired slot held, each by another reader
pub record AllHeld (retired : List Retired) (polls : List Past) : Type 0 where
  pub many : length polls ≡ length retired
  pub slots : (at : ℕ) (entry : Retired) → get_elem? retired at ≡ some entry
      → (poll : Past) × (get_elem? polls at ≡ some poll) × (poll.slot ≡ Some entry.slot)
  pub different : (reader : ℕ) → total (λ poll. only reader poll.reader) polls ≤ 1

-- there is no slot for a call that would be done: each is named, or is retired and was held at its poll
pub record NoRoom (shape : Shape) (call : WriterCall) (retired : List Retired) (polls : List Past)
    (log : List Entry) : Type 0 where
  pub done : reply_to (map_after shape log) (call_of call) ≡ reply.Done
  pub slots : filled_count (map_after shape log) + length retired ≡ shape.slots
  pub apart : (slot : ℕ) → retirements slot retired ≤ 1
  pub held : AllHeld retired polls
  pub few : length polls ≤ shape.readers

-- a poll that found its slot held: by the noted reader, whose count is not below what was known of it
pub record Missed (shape : Shape) (known polls : List Past) (slot : ℕ) (now : List Past) : Type 0 where
  pub note : Past
  pub more : now ≡ polls ++ note ∷ []
  pub holds : note.slot ≡ Some slot
  pub newer : (at : ℕ) (old : Past) → get_elem? known at ≡ some old → old.reader ≡ note.reader → old.count ≤ note.count
  pub range : (0 < note.reader) × (note.reader ≤ shape.readers)
  pub different : (reader : ℕ) → total (λ poll. only reader poll.reader) now ≤ 1
  pub few : length now ≤ shape.readers

-- the polls noted readers that the map has, and none as it was before what was known of it
pub record Noted (shape : Shape) (known polls : List Past) : Type 0 where
  pub newer : (at place : ℕ) (poll old : Past) → get_elem? polls at ≡ some poll → get_elem? known place ≡ some old
      → old.reader ≡ poll.reader → old.count ≤ poll.count
  pub range : (at : ℕ) (poll : Past) → get_elem? polls at ≡ some poll
      → (0 < poll.reader) × (poll.reader ≤ shape.readers)
