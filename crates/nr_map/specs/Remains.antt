-- A map that was taken apart: the sets that stand in its slots come out, one after another.
use Rattle.std.specs.Prelude.{◌≡◌, ℕ, ◌+◌, ◌*◌, ◌<◌, ◌≤◌, Bool, true, false, List, [], ◌∷◌, length, map, slice_index}
use Rattle.std.specs.Prelude.{Option, Some, None}
use Rattle.nr_model.specs.Strays.{count_of_put}
use Rattle.nr_model.specs.declared.rows.Row.{Row}
use Rattle.nr_model.specs.Rows.{IsRowSet}
use Rattle.nr_core.specs.Marks.{Marks, is_reaped, set_in}
use Rattle.nr_core.specs.Puts.{put_count}
use Rattle.nr_board.specs.Callers.{Caller, Table}
use Rattle.nr_board.specs.Meetings.{with_steps}
use Rattle.nr_map.specs.Reclaims.{Ledger}

-- the writer's token, and how many of the slots have been looked through
pub record Left : Type 0 where
  pub writer : Caller
  pub next : ℕ

-- of a map's readers so many are not back yet
pub record Out : Type 0 where
  pub table : Table
  pub count : ℕ

-- none has come out yet
pub record TakenApart (writer : Caller) (left : Left) : Type 0 where
  pub writer_is : left.writer ≡ writer
  pub next : left.next ≡ 0

-- a set that came out of a map, with its put number
pub record Given : Type 0 where
  pub number : ℕ
  pub rows : List Row

abbrev pub numbers : List Given → List ℕ
numbers given = map (λ (one : Given). one.number) given

-- the set that stands in a slot
abbrev pub given_at : Caller → ℕ → Given
given_at writer slot = record { number = slice_index writer.marks.puts slot; rows = set_in writer.marks slot }

-- these slots were reaped
abbrev pub AllReaped : Marks → ℕ → ℕ → Type 0
AllReaped marks first end = (slot : ℕ) → first ≤ slot → slot < end → is_reaped marks slot ≡ true

-- from that slot on the first that was ever taken and not reaped, if there is one
abbrev pub NextSlot : Caller → ℕ → Option ℕ → Type 0
NextSlot writer from (Some slot) =
    (from ≤ slot) × (slot < writer.fresh) × AllReaped writer.marks from slot × (is_reaped writer.marks slot ≡ false)
NextSlot writer from None = AllReaped writer.marks from writer.fresh

-- by a load of each word the room shows the set of the next slot, and those after it are left
pub record ComesOut {Room : Type 0} (shows : Room → List Row → Type 0) (old new : Left) (after : Room) : Type 0 where
  pub slot : ℕ
  pub first : NextSlot old.writer old.next (Some slot)
  pub shown : shows after (set_in old.writer.marks slot)
  pub row_set : IsRowSet old.writer.table.shape.rows (set_in old.writer.marks slot)
  pub is : new
      ≡ record { writer = with_steps (2 * length (set_in old.writer.marks slot) + 1) old.writer; next = slot + 1 }

-- the set of the next slot that was not reaped comes out, if there is one
abbrev pub NextOf : {Room : Type 0} → (Room → List Row → Type 0) → Left → Room → Left → Room → Bool → Type 0
NextOf shows old before new after true = ComesOut shows old new after
NextOf shows old before new after false = NextSlot old.writer old.next None × (new ≡ old) × (after ≡ before)

module _ {Room : Type 0} (shows : Room → List Row → Type 0) where
  -- all that is left comes out, by calls that give a set each, and a last one that gives none
  pub data AllComeOut : Left → List Given → Type 0 where
    OneMore : (old new : Left) (before after : Room) (rest : List Given)
        → (next : NextOf shows old before new after true) → AllComeOut new rest
        → AllComeOut old (given_at old.writer next.slot ∷ rest)
    NoMore : (old new : Left) (before after : Room) → NextOf shows old before new after false → AllComeOut old []

  -- these are the sets that no call let go or reaped, each once
  abbrev pub RestComesOutOnce : Type 0
  RestComesOutOnce =
      (writer : Caller) (gone : List ℕ) (left : Left) (rest : List Given) (number : ℕ) →
      Ledger writer gone →
      TakenApart writer left →
      AllComeOut left rest →
      number < put_count writer.mine →
      count_of_put (numbers rest) number + count_of_put gone number ≡ 1
