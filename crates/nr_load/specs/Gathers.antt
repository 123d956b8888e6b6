-- What the writer and the readers know after a round of gathers, and after a count of the asked keys.
use Rattle.std.specs.Prelude.{◌≡◌, ◌<◌, ℕ, ◌+◌, List, length, slice_index_or}
use Rattle.nr_model.specs.Histories.{Entry}
use Rattle.nr_model.specs.Laws.{pending}
use Rattle.nr_core.specs.Sums.{total}
use Rattle.nr_board.specs.declared.answers.KeyKind.{KeyKind}
use Rattle.nr_board.specs.declared.answers.KeyKind.TheVariants as kind
use Rattle.nr_board.specs.Callers.{Caller, map_seen, IsSound}
use Rattle.nr_map.specs.Rounds.{HasCalls, HasHeard, KnowsAll}
use Rattle.nr_load.specs.Balance.{Stays}

-- the readers of a map, in the order of their numbers
pub record IsInOrder (count : ℕ) (readers : List Caller) : Type 0 where
  pub count_is : length readers ≡ count
  pub numbers : (at : ℕ) (other : Caller) → at < length readers → (slice_index_or readers at other).number ≡ at + 1

-- the writer has the reader's calls, and the reader has seen what the writer had seen before the round
pub record Hears (before : List Entry) (old : Caller) (after : List Entry) (new : Caller) : Type 0 where
  pub stays : Stays old new
  pub calls : HasCalls after new
  pub heard : HasHeard before new

pub record GathersAll (writer : Caller) (readers : List Caller) (writer' : Caller) (readers' : List Caller) : Type
    0 where
  pub stays : Stays writer writer'
  pub sound : 0 < length readers → IsSound writer'
  pub count : length readers' ≡ length readers
  pub each : (at : ℕ) (other : Caller) → at < length readers
      → Hears writer.seen (slice_index_or readers at other) writer'.seen (slice_index_or readers' at other)

abbrev pub asked_one : KeyKind → ℕ
asked_one kind.Hole = 0
asked_one kind.Asked = 1
asked_one kind.Rows = 0

-- a count of the asked keys, exact where the writer learnt of no call meanwhile
pub record CountsAsked (old new : Caller) (asked : ℕ) : Type 0 where
  pub stays : Stays old new
  pub sound : IsSound old → IsSound new
  pub exact : new.seen ≡ old.seen → asked ≡ total pending (map_seen old).states

-- one legal history has exactly the calls of the writer and of the readers, and leaves that many keys asked; it is what
-- the writer knew before its second round
pub record IsTally (writer : Caller) (readers : List Caller) (asked : ℕ) : Type 0 where
  pub knower : Caller
  pub table : knower.table ≡ writer.table
  pub mine : knower.mine ≡ writer.mine
  pub knows : KnowsAll knower readers
  pub exact : asked ≡ total pending (map_seen knower).states
