-- A map whose tokens all have one owner, gathered: what stands between two lines, and the state that it shows.
use Rattle.std.specs.Prelude.{◌≡◌, ◌<◌, ℕ, zero, suc, ◌+◌, Bool, true, List, [], length, map, take, slice_index_or}
use Rattle.std.specs.List.{count_by}
use mathlib.Core.Option.{some}
use lib.ListN.{get_elem?}
use Rattle.nr_model.specs.Histories.{Entry, entries_of}
use Rattle.nr_model.specs.Laws.{LegalBegins, LegalGoesOn}
use Rattle.nr_core.specs.Story.{map_after}
use Rattle.nr_core.specs.Sums.{total}
use Rattle.nr_core.specs.Exact.{put_numbers}
use Rattle.nr_core.specs.MarkLaws.{PutGoesOn}
use Rattle.nr_core.specs.Pasts.{Current}
use Rattle.nr_core.specs.Puts.{put_count}
use Rattle.nr_board.specs.Callers.{Caller, Table}
use Rattle.nr_board.specs.Rule.{StartsWith}
use Rattle.nr_map.specs.ExactPlaces.{DoneMeansFewerInUse, NoSlotMeansAllInUse}
use Rattle.nr_map.specs.Rounds.{EntriesAreCallers}
use Rattle.nr_map.specs.Hands.{Handed}
use Rattle.nr_script.specs.MapState.{MapState}
use Rattle.nr_script.specs.Hands.{HandHoldsItsPin, caller_in, how_of, mine_of, pin_of}
use Rattle.nr_script.specs.Rounds.{IsSoundWriter}

-- the calls of each caller: 0 is the writer
abbrev pub calls_of : List Entry → List (List Entry) → ℕ → List Entry
calls_of mine readers zero = mine
calls_of mine readers (suc at) = slice_index_or readers at []

-- the history has exactly the calls of the writer and the readers
abbrev pub HasJust : List Entry → Caller → List Handed → Type 0
HasJust log writer hands = (caller : ℕ) → entries_of log caller ≡ calls_of writer.mine (map mine_of hands) caller

-- how many calls were made
abbrev pub one_each : Entry → Bool
one_each entry = true

abbrev pub made : Caller → List Handed → ℕ
made writer hands =
    count_by one_each writer.mine + total (λ (reader : Caller). count_by one_each reader.mine) (map caller_in hands)

-- the history of these calls alone: no clause says that the writer has not seen more
abbrev pub log_of : Caller → List Handed → List Entry
log_of writer hands = take (made writer hands) writer.seen

-- the writer knows how the reader is, and has compared it with its lists; the reader has seen the history
pub record IsKnown (log : List Entry) (writer : Caller) (hand : Handed) : Type 0 where
  pub place : ℕ
  pub known : get_elem? writer.pasts place ≡ some (how_of hand)
  pub current : Current writer.retired writer.marks (how_of hand)
  pub heard : StartsWith hand.reader.seen log

-- the hand at an index is of the map, and its reader's number is the next one
pub record IsHand (map : Table) (at : ℕ) (hand : Handed) : Type 0 where
  pub table : hand.reader.table ≡ map
  pub number : hand.reader.number ≡ suc at
  pub fits : HandHoldsItsPin hand

-- what stood before a line as far as its round needs it: the history has exactly the calls
pub record ReadyForRound (table : Table) (writer : Caller) (hands : List Handed) : Type 0 where
  pub own : writer.table ≡ table
  pub number : writer.number ≡ 0
  pub count : length hands ≡ table.shape.readers
  pub some_one : 0 < length hands
  pub just : HasJust (log_of writer hands) writer hands
  -- readers find by counts
  pub counted : table.announcers ≡ 0

-- between two lines the writer knows too how each reader is, and each reader what was called
pub record IsAlone (table : Table) (writer : Caller) (hands : List Handed) : Type 0 where
  pub stands : ReadyForRound table writer hands
  pub places : (at : ℕ) (other : Handed) → at < length hands → IsHand table at (slice_index_or hands at other)
  pub sound : IsSoundWriter writer
  pub known : (at : ℕ) (other : Handed) → at < length hands
      → IsKnown (log_of writer hands) writer (slice_index_or hands at other)

-- the state after a history, with what is pinned
abbrev pub shown_after : Table → List Entry → List Handed → MapState
shown_after table log hands =
    record {
      map = map_after table.shape log;
      slots = table.shape.slots;
      first_count = table.shape.first_count;
      puts = put_numbers table.shape log;
      put_count = put_count log;
      pins = map pin_of hands;
    }

abbrev pub shown_by : Table → Caller → List Handed → MapState
shown_by table writer hands = shown_after table (log_of writer hands) hands

-- the laws of the map that lines stand on
pub record Laws : Type 0 where
  pub entries : EntriesAreCallers
  pub no_slot : NoSlotMeansAllInUse
  pub done : DoneMeansFewerInUse
  pub puts : PutGoesOn
  pub goes_on : LegalGoesOn
  pub begins : LegalBegins
