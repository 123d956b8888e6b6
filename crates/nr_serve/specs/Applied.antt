-- How much a dataflow has applied so far, and what a note tells of it.
use Rattle.std.specs.Prelude.{◌≡◌, ◌<◌, ◌≤◌, ℕ, true, List, ◌∷◌, [], ◌++◌, Option, None, Some, slice_index}
use Rattle.nr_model.specs.declared.calls.Reply.{Reply}
use Rattle.nr_model.specs.declared.rows.Row.{Row}
use Rattle.nr_model.specs.Histories.{Entry}
use Rattle.nr_core.specs.Puts.{puts_at}
use Rattle.nr_board.specs.Callers.{Caller, KnowsOwn}
use Rattle.nr_board.specs.Meetings.{HearsNote, Known}
use Rattle.nr_board.specs.Rule.{StartsWith}
use Rattle.nr_serve.specs.declared.hands.Hands.{Hands}
use Rattle.nr_serve.specs.declared.answers.Got.{Got}
use Rattle.nr_serve.specs.Counts.{GuestSeen, closed_at}
use Rattle.nr_serve.specs.Gets.{Gets, found, misses}
use Rattle.nr_serve.specs.Heard.{FindsHeard}

-- the amount that was told last, with a note of then
pub record Telling : Type 0 where
  pub amount : ℕ
  pub note : Option Known

-- a put of the key stands in the history that the note's maker had seen
abbrev pub HasPut : ℕ → Known → Type 0
HasPut key note =
    (before since : List Entry) × (put : Entry) × (note.seen ≡ (before ++ put ∷ []) ++ since) × (puts_at key put ≡ true)

module _ (reached : ℕ → Known → Type 0) where
  -- of so much at least the caller heard in 4 steps: a note whose maker had seen it; or the lobby is closed, and the
  -- caller is as it was
  abbrev pub HearsApplied : ℕ → GuestSeen → Caller → Caller → Option ℕ → Type 0
  HearsApplied least guest old new (Some amount) =
      (least ≤ amount) × (note : Known) × reached amount note × HearsNote 4 note old new
  HearsApplied least guest old new None = (new ≡ old) × (0 < slice_index guest.seen closed_at)

  -- the note of so much always has it
  abbrev pub HasPutOf : ℕ → ℕ → Type 0
  HasPutOf key amount = (note : Known) → reached amount note → HasPut key note

  -- a client that heard of so much, in which the key had been put, finds in each find of a get that it makes then the
  -- rows of that put or of a later one, or a hole where the key was evicted since
  abbrev pub GetsWhatWasApplied : Type 0
  GetsWhatWasApplied =
      (old heard : Caller) (least amount : ℕ) (guest : GuestSeen) (asking new : Hands) (key tries : ℕ)
      (rows_before rows : List Row) (got : Got) (first rest : List Entry) (answer : Reply)
      →
      key < old.table.shape.keys →
      HasPutOf key amount →
      HearsApplied least guest old heard (Some amount) →
      asking.reader.table ≡ heard.table →
      StartsWith asking.reader.seen heard.seen →
      KnowsOwn asking.reader →
      (gets : Gets key tries asking rows_before new rows got) →
      misses asking.reader.number key gets.requests ++ gets.last ≡ first ++ found asking.reader.number key answer ∷ rest
      →
      (before since : List Entry) × (put : Entry) × (puts_at key put ≡ true)
      × FindsHeard old key (before ++ put ∷ []) since (found asking.reader.number key answer) new.reader.seen
