-- What the writer's history has of all callers after rounds of gathers.
use Rattle.std.specs.Prelude.{◌≡◌, ℕ, ◌+◌, ◌<◌, ◌&&◌, Bool, List, All, length, slice_index_or, count_by}
use Rattle.nr_model.specs.Histories.{Entry, IsLegal, asks, cancels, cancels_key, entries_of, fills, fills_key}
use Rattle.nr_model.specs.Histories.{is_cancelled, is_done, is_send, sends}
use Rattle.nr_model.specs.Laws.{pending}
use Rattle.nr_model.specs.Maps.{call_key, state_of}
use Rattle.nr_core.specs.Sums.{total}
use Rattle.nr_board.specs.Callers.{Caller, KnowsOwn, map_seen, map_at_opening}
use Rattle.nr_board.specs.Entries.{AreCallers}
use Rattle.nr_board.specs.Rule.{StartsWith}

-- the history has at least the caller's calls, or exactly these
abbrev pub HasCalls : List Entry → Caller → Type 0
HasCalls log caller = StartsWith (entries_of log caller.number) caller.mine

abbrev pub HasJustCalls : List Entry → Caller → Type 0
HasJustCalls log caller = entries_of log caller.number ≡ caller.mine

-- the caller has seen the history, and knows its own calls
abbrev pub HasHeard : List Entry → Caller → Type 0
HasHeard log caller = StartsWith caller.seen log × KnowsOwn caller

-- a caller's calls stay in a history that goes on
abbrev pub CallsStay : Type 0
CallsStay =
    (log later : List Entry) (caller : Caller) → StartsWith later log → HasCalls log caller → HasCalls later caller

-- one round of gathers made the writer learn all readers' calls, and the next let each reader see what the writer had
-- then: the writer had exactly their calls
abbrev pub RoundsTellAll : Type 0
RoundsTellAll =
    (log : List Entry) (readers : List Caller) → All (HasCalls log) readers → All (HasHeard log) readers
    → All (HasJustCalls log) readers

-- the writer's history has exactly all callers' calls; the readers stand in the order of their numbers
pub record KnowsAll (writer : Caller) (readers : List Caller) : Type 0 where
  pub number : writer.number ≡ 0
  pub own : KnowsOwn writer
  pub legal : IsLegal (map_at_opening writer.table) writer.seen
  pub callers : AreCallers writer.table.shape writer.seen
  pub count : length readers ≡ writer.table.shape.readers
  pub numbers : (at : ℕ) (other : Caller) → at < length readers → (slice_index_or readers at other).number ≡ at + 1
  pub each : All (HasJustCalls writer.seen) readers

-- the history's entries are the callers', counted by any test
abbrev pub EntriesAreCallers : Type 0
EntriesAreCallers =
    (writer : Caller) (readers : List Caller) (test : Entry → Bool) →
    KnowsAll writer readers →
    count_by test writer.seen ≡ count_by test writer.mine + total (λ reader. count_by test reader.mine) readers

-- so all callers' requests of a key that were answered Send are its fills and its cancels, and one more where it is
-- asked
abbrev pub SendsOfAll : Type 0
SendsOfAll =
    (writer : Caller) (readers : List Caller) (key : ℕ) →
    KnowsAll writer readers →
    key < writer.table.shape.keys →
    sends writer.mine key + total (λ reader. sends reader.mine key) readers
    ≡ fills writer.mine key + total (λ reader. fills reader.mine key) readers
    + (cancels writer.mine key + total (λ reader. cancels reader.mine key) readers)
    + pending (state_of (map_seen writer) key)

-- a request that was answered Send, a fill that was done, and a cancel that was, of whatever key
abbrev pub is_sent : Entry → Bool
is_sent entry = asks (call_key entry.call) entry.call && is_send entry.reply

abbrev pub is_fill : Entry → Bool
is_fill entry = fills_key (call_key entry.call) entry.call && is_done entry.reply

abbrev pub is_cancel : Entry → Bool
is_cancel entry = cancels_key (call_key entry.call) entry.call && is_cancelled entry.reply

-- so of all keys: requests answered Send are fills and cancels, and one for each key that is asked
abbrev pub SendsOfAllKeys : Type 0
SendsOfAllKeys =
    (writer : Caller) (readers : List Caller) →
    KnowsAll writer readers →
    count_by is_sent writer.mine + total (λ reader. count_by is_sent reader.mine) readers
    ≡ count_by is_fill writer.mine + total (λ reader. count_by is_fill reader.mine) readers
    + (count_by is_cancel writer.mine + total (λ reader. count_by is_cancel reader.mine) readers)
    + total pending (map_seen writer).states

-- a beginning that is at least and at most is equal
abbrev pub BeginningsMeet : Type 0
BeginningsMeet = (one other : List Entry) → StartsWith one other → StartsWith other one → one ≡ other
