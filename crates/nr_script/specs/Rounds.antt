-- A round of gathers over the hands.
use Rattle.std.specs.Prelude.{◌≡◌, ◌<◌, ℕ, List, length, map, slice_index_or}
use mathlib.Core.Option.{some}
use lib.ListN.{get_elem?}
use Rattle.nr_model.specs.Histories.{Entry, IsLegal, entries_of}
use Rattle.nr_core.specs.Exact.{Lists}
use Rattle.nr_core.specs.Pasts.{Current}
use Rattle.nr_board.specs.Callers.{Caller, KnowsOwn, map_at_opening}
use Rattle.nr_board.specs.Entries.{AreCallers}
use Rattle.nr_map.specs.ExactPlaces.{OnlyLearnt}
use Rattle.nr_board.specs.Meetings.{Gathers, desk_seen}
use Rattle.nr_board.specs.Rule.{StartsWith}
use Rattle.nr_map.specs.Hands.{Handed}
use Rattle.nr_script.specs.Hands.{how_of, mine_of, pin_of, still}

pub record GathersHand (writer : Caller) (hand : Handed) (writer' : Caller) (hand' : Handed) : Type 0 where
  pub gathers : Gathers writer hand.reader writer' hand'.reader
  pub pin : pin_of hand' ≡ pin_of hand

-- what a writer's history is, and what it has of the writer and of others
pub record IsSoundWriter (writer : Caller) : Type 0 where
  pub own : KnowsOwn writer
  pub legal : IsLegal (map_at_opening writer.table) writer.seen
  pub callers : AreCallers writer.table.shape writer.seen
  pub lists : Lists (desk_seen writer) writer.marks writer.table.shape writer.seen

-- what the writer learnt of a reader, and the reader of the writer; `log` is what the writer knew first: it has no more
-- calls of the reader than the reader made
pub record IsShown (log : List Entry) (writer : Caller) (hand : Handed) : Type 0 where
  pub few : StartsWith (mine_of hand) (entries_of log hand.reader.number)
  pub place : ℕ
  pub known : get_elem? writer.pasts place ≡ some (how_of hand)
  pub current : Current writer.retired writer.marks (how_of hand)
  pub heard : StartsWith hand.reader.seen log

-- the writer made no call, and forgot nothing
pub record WriterStays (old new : Caller) : Type 0 where
  pub number : new.number ≡ old.number
  pub mine : new.mine ≡ old.mine
  pub seen : StartsWith new.seen old.seen
  pub only : OnlyLearnt old new

pub record Round (writer : Caller) (hands : List Handed) (writer' : Caller) (hands' : List Handed) : Type
    0 where
  pub stays : WriterStays writer writer'
  pub sound : IsSoundWriter writer'
  pub same : map still hands' ≡ map still hands
  pub each : (at : ℕ) (other : Handed) → at < length hands
      → IsShown writer.seen writer' (slice_index_or hands' at other)

-- a round with that hand first: the first writer has exactly that reader's calls
pub record Gathered (first : ℕ) (writer : Caller) (hands : List Handed) (writer' : Caller)
    (hands' : List Handed) : Type 0 where
  pub mid : Caller
  pub stays : WriterStays writer mid
  pub sound : IsSoundWriter mid
  pub all : (other : Handed)
      → entries_of mid.seen (slice_index_or hands first other).reader.number
      ≡ mine_of (slice_index_or hands first other)
  -- so it has all that the reader had seen
  pub heard : (other : Handed) → StartsWith mid.seen (slice_index_or hands first other).reader.seen
  pub round : Round mid hands writer' hands'
