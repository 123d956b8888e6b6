-- A caller of a map's writer that lets no set be overwritten: it puts sets by reclaiming calls alone, reaps, and takes
-- the map apart at its end. Each set that it puts comes out once, with its rows.
use Rattle.std.specs.Prelude.{◌≡◌, ℕ, ◌<◌, false, List, [], ◌∷◌, ◌++◌, length, slice_index_or, Ok, Err}
use mathlib.Core.Option.{some}
use lib.ListN.{get_elem?}
use Rattle.nr_model.specs.Histories.{is_done}
use Rattle.nr_model.specs.Strays.{count_of_put}
use Rattle.nr_model.specs.declared.batches.Delta.{Delta}
use Rattle.nr_model.specs.declared.calls.Call.{Call}
use Rattle.nr_model.specs.declared.calls.Reply.{Reply}
use Rattle.nr_model.specs.declared.rows.Row.{Row}
use Rattle.nr_core.specs.declared.calls.NoSlot.{NoSlot}
use Rattle.nr_core.specs.declared.shape.Shape.{Shape}
use Rattle.nr_board.specs.declared.answers.Cancel.{Cancel}
use Rattle.nr_board.specs.declared.answers.Evict.{Evict}
use Rattle.nr_board.specs.declared.answers.FillFault.{FillFault}
use Rattle.nr_board.specs.declared.answers.Reaped.TheVariants as reaped
use Rattle.nr_board.specs.declared.answers.Reclaimed.{Reclaimed}
use Rattle.nr_board.specs.declared.answers.Reclaimed.TheVariants as reclaimed
use Rattle.nr_board.specs.declared.answers.ReplaceFault.{ReplaceFault}
use Rattle.nr_board.specs.declared.answers.UpdateFault.{UpdateFault}
use Rattle.nr_board.specs.Callers.{Caller, Gains, Table}
use Rattle.nr_board.specs.Meetings.{Learns, with_steps}
use Rattle.nr_board.specs.Reaping.{ReapsIn}
use Rattle.nr_board.specs.Reclaiming.{FillsReclaiming, ReplacesReclaiming, UpdatesReclaiming}
use Rattle.nr_board.specs.WriterAnswers.{CancelsKey, EvictsKey, HasNoSlot, SlotsStay}
use Rattle.nr_map.specs.Opened.{IsOpened}
use Rattle.nr_map.specs.Remains.{AllComeOut, Given, Left, TakenApart, given_at, numbers}

-- what a reclaiming call gave out of the slot that it took
abbrev pub given_by : Caller → ℕ → Reclaimed → List Given
given_by old slot reclaimed.Set = given_at old slot ∷ []
given_by old slot reclaimed.Nothing = []

module _ {Room : Type 0} (shows : Room → List Row → Type 0) where
  -- a call by the writer's token, by what its contract says, with the sets that it put and those that it gave out
  pub data Deals : Caller → List (List Row) → List Given → Caller → Type 0 where
    Fills : (key number : ℕ) (rows : List Row) (old new : Caller) (before after : Room) (given : Reclaimed)
        → (done : FillsReclaiming shows key number rows old before new after (Ok given))
        → Deals old (rows ∷ []) (given_by old done.published.slot given) new
    FillRefused : (key number : ℕ) (rows : List Row) (old new : Caller) (before after : Room) (fault : FillFault)
        → FillsReclaiming shows key number rows old before new after (Err fault) → Deals old [] [] new
    Updates : (bound key : ℕ) (batch : List Delta) (old new : Caller) (before after : Room) (given : Reclaimed)
        → (done : UpdatesReclaiming shows bound key batch old before new after (Ok given))
        → Deals old (done.left ∷ []) (given_by old done.published.slot given) new
    UpdateRefused : (bound key : ℕ) (batch : List Delta) (old new : Caller) (before after : Room) (fault : UpdateFault)
        → UpdatesReclaiming shows bound key batch old before new after (Err fault) → Deals old [] [] new
    Replaces : (key : ℕ) (rows : List Row) (old new : Caller) (before after : Room) (given : Reclaimed)
        → (done : ReplacesReclaiming shows key rows old before new after (Ok given))
        → Deals old (rows ∷ []) (given_by old done.published.slot given) new
    ReplaceRefused : (key : ℕ) (rows : List Row) (old new : Caller) (before after : Room) (fault : ReplaceFault)
        → ReplacesReclaiming shows key rows old before new after (Err fault) → Deals old [] [] new
    Reaps : (old new : Caller) (before after : Room) → (done : ReapsIn shows old before new after reaped.Set)
        → Deals old [] (given_at old done.entry.slot ∷ []) new
    ReapHeld : (old new : Caller) (before after : Room) → ReapsIn shows old before new after reaped.Held
        → Deals old [] [] new
    ReapNothing : (old new : Caller) (before after : Room) → ReapsIn shows old before new after reaped.Nothing
        → Deals old [] [] new
    Evicts : (key : ℕ) (old new : Caller) (answer : Evict) → EvictsKey key old new answer → Deals old [] [] new
    Cancels : (key : ℕ) (old new : Caller) (answer : Cancel) → CancelsKey key old new answer → Deals old [] [] new
    -- a find of the writer's own, and a plain call that its key refuses, or that finds no slot
    Quiet : (steps : ℕ) (call : Call) (answer : Reply) (old new : Caller) → is_done answer ≡ false
        → Gains steps call old new answer → SlotsStay old new → Deals old [] [] new
    Lacks : (steps : ℕ) (call : Call) (counts : NoSlot) (old new : Caller) → HasNoSlot steps call old new counts
        → Deals old [] [] new
    -- a meeting, a note that is heard, a key's state, a count of slots
    LearnsMore : (steps : ℕ) (old new : Caller) → Learns steps old new → Deals old [] [] new
    -- a note that is made, a meeting by which another token learns
    Rests : (steps : ℕ) (old new : Caller) → new ≡ with_steps steps old → Deals old [] [] new

  -- the writer after any such calls from an opening on, with the sets that they put, in order, and those that they gave
  -- out
  pub data Run : Caller → List (List Row) → List Given → Type 0 where
    Opens : (shape : Shape) (words : ℕ) (map : Table) (writer : Caller) (readers : List Caller)
        → IsOpened shape words map writer readers → Run writer [] []
    Goes : (old new : Caller) (put more : List (List Row)) (given out : List Given) → Run old put given
        → Deals old more out new → Run new (put ++ more) (given ++ out)

-- the rows of a put number, where these sets were put
abbrev pub rows_put : List (List Row) → ℕ → List Row
rows_put put number = slice_index_or put number []

-- each set that was put came out once, with its rows, and nothing else did
pub record IsEachOnce (put : List (List Row)) (given : List Given) : Type 0 where
  pub once : (number : ℕ) → number < length put → count_of_put (numbers given) number ≡ 1
  pub rows : (at : ℕ) (one : Given) → get_elem? given at ≡ some one
      → (one.number < length put) × (one.rows ≡ rows_put put one.number)

-- so it is, once the map was taken apart and all that was left has come out
abbrev pub EachSetComesOutOnce : {Room : Type 0} → (Room → List Row → Type 0) → Type 0
EachSetComesOutOnce shows =
    (writer : Caller) (put : List (List Row)) (given rest : List Given) (left : Left) →
    Run shows writer put given →
    TakenApart writer left →
    AllComeOut shows left rest →
    IsEachOnce put (given ++ rest)
