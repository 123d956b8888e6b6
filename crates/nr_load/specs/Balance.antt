-- What all callers did, and what a token keeps while it is gathered.
use Rattle.std.specs.Prelude.{◌≡◌, ◌<◌, ◌+◌, ℕ, Bool, List, length, slice_index_or}
use Rattle.std.specs.List.{count_by}
use Rattle.nr_model.specs.Histories.{Entry}
use Rattle.nr_core.specs.Sums.{total}
use Rattle.nr_board.specs.Callers.{Caller}
use Rattle.nr_map.specs.Rounds.{is_cancel, is_fill, is_sent}
use Rattle.nr_board.specs.Rule.{StartsWith}

-- that many calls of the writer and the readers meet the test
abbrev pub of_all : (Entry → Bool) → Caller → List Caller → ℕ
of_all test writer readers = count_by test writer.mine + total (λ reader. count_by test reader.mine) readers

-- of all callers, the requests that were to be sent are the fills that were done, the requests that were cancelled, and
-- the keys that are asked
abbrev pub Balances : Caller → List Caller → ℕ → Type 0
Balances writer readers asked =
    of_all is_sent writer readers ≡ of_all is_fill writer readers + of_all is_cancel writer readers + asked

-- the token made no call, and forgot nothing
pub record Stays (old new : Caller) : Type 0 where
  pub table : new.table ≡ old.table
  pub number : new.number ≡ old.number
  pub mine : new.mine ≡ old.mine
  pub seen : StartsWith new.seen old.seen

-- nor did any of these
abbrev pub StaysEach : List Caller → List Caller → Type 0
StaysEach old new =
    (length new ≡ length old)
    × ((at : ℕ) (other : Caller) → at < length old
    → Stays (slice_index_or old at other) (slice_index_or new at other))
