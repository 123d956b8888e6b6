-- What a caller of the map may rely on. Each statement is of the words that the contracts of the calls have, which say
-- more, and laws::theorem proves them all. What isn't defined here stands in the file that is named beside it.
use Rattle.std.specs.Prelude.{◌≡◌, ℕ, ◌+◌, ◌≤◌, List, [], ◌∷◌, ◌++◌, length, Option, Some, None, Result, Ok, Err, true}
use Rattle.nr_model.specs.declared.batches.Delta.{Delta}
use Rattle.nr_model.specs.declared.calls.Call.{Call}
use Rattle.nr_model.specs.declared.calls.Call.TheVariants as model
use Rattle.nr_model.specs.declared.calls.Reply.{Reply}
use Rattle.nr_model.specs.declared.calls.Reply.TheVariants as reply
use Rattle.nr_model.specs.declared.rows.Row.{Row}
use Rattle.nr_model.specs.Histories.{Entry, IsLegal, after, entries_of}
use Rattle.nr_model.specs.Maps.{filled_count, reply_to}
use Rattle.nr_core.specs.Story.{entry}
use Rattle.nr_board.specs.declared.answers.Cancel.{Cancel}
use Rattle.nr_board.specs.declared.answers.Cancel.TheVariants as cancel
use Rattle.nr_board.specs.declared.answers.Evict.{Evict}
use Rattle.nr_board.specs.declared.answers.Evict.TheVariants as evict
use Rattle.nr_board.specs.declared.answers.FillFault.{FillFault}
use Rattle.nr_board.specs.declared.answers.FillFault.TheVariants as fill
use Rattle.nr_board.specs.declared.answers.Found.{Found}
use Rattle.nr_board.specs.declared.answers.Found.TheVariants as found
use Rattle.nr_board.specs.declared.answers.Reclaimed.{Reclaimed}
use Rattle.nr_board.specs.declared.answers.ReplaceFault.{ReplaceFault}
use Rattle.nr_board.specs.declared.answers.ReplaceFault.TheVariants as replace
use Rattle.nr_board.specs.declared.answers.UpdateFault.{UpdateFault}
use Rattle.nr_board.specs.declared.answers.UpdateFault.TheVariants as update
use Rattle.nr_board.specs.Callers.{Caller, Table, map_at_opening, map_seen}
use Rattle.nr_board.specs.Entries.{AreCallers}
use Rattle.nr_board.specs.Meetings.{HearsNote, Known}
use Rattle.nr_board.specs.Reclaiming.{FillsReclaiming, ReplacesReclaiming, UpdatesReclaiming}
use Rattle.nr_board.specs.Rule.{StartsWith}
use Rattle.nr_board.specs.WriterAnswers.{CancelsKey, EvictsKey, FillsKey, LooksAt, ReplacesKey, UpdatesKey}
use Rattle.nr_map.specs.Answers.{AsksKey, FindsIn, FindsKey}
use Rattle.nr_map.specs.GivenBack.{EachSetComesOutOnce}
use Rattle.nr_map.specs.Hands.{FindsKept, Handed}
use Rattle.nr_map.specs.Pins.{FindsByPin, Pinned, PinsKey}
use Rattle.nr_map.specs.SlotBounds.{HasRoomForAll}
use Rattle.nr_map.specs.Written.{answered}
use Rattle.nr_map.specs.declared.answers.Asked.{Asked}
use Rattle.nr_map.specs.declared.answers.Asked.TheVariants as asked

-- THE HISTORY. All callers' calls stand in one order, of which each token sees a beginning: that it is one for all is
-- the map's invariant (Kept of nr_board's Rule.antt), and contracts say it of tokens that hear of each other. An entry
-- is a call with its caller and its reply. Each reply is that of a map that nobody shares, after the entries before it:
-- so the history is legal (IsLegal of nr_model's Histories.antt; what a call answers and which map it leaves, case by
-- case: reply_to and next of Maps.antt). At its opening each key is a hole. Others' entries are finds and requests of
-- readers and the writer's calls (AreCallers of nr_board's Entries.antt).
abbrev pub IsHistory : Table → List Entry → Type 0
IsHistory map log = IsLegal (map_at_opening map) log × AreCallers map.shape log

-- WHAT A TOKEN HAS SEEN. Of a token contracts see a Caller (nr_board's Callers.antt): seen is the beginning of the
-- history that it knows, mine are its own calls. Here old is a token before a call, and new the same after it: what it
-- has seen goes on by entries of others, and then by its own.
pub record Goes (own : List Entry) (old new : Caller) : Type 0 where
  pub table : new.table ≡ old.table
  pub number : new.number ≡ old.number
  pub others : List Entry
  pub seen : new.seen ≡ (old.seen ++ others) ++ own
  pub mine : new.mine ≡ old.mine ++ own
  pub history : IsHistory old.table new.seen
  -- of its calls the history has just those that it made, each once and in their order
  pub each_once : entries_of new.seen new.number ≡ new.mine

-- A CALL'S ENTRY. The reply is the map's, after all that the caller had seen and entries of others.
pub record IsEntry (call : Call) (reply : Reply) (old new : Caller) : Type 0 where
  pub goes : Goes (entry old.number call reply ∷ []) old new
  pub answer : reply ≡ reply_to (after (map_at_opening old.table) (old.seen ++ goes.others)) call

-- NO SLOT. A write that finds none is no entry, though the map would have done it: each slot is a filled key's or
-- retired, and each retired one was kept back by another reader (HasNoSlot of nr_board's WriterAnswers.antt).
pub record FindsNoSlot (call : Call) (old new : Caller) : Type 0 where
  pub goes : Goes [] old new
  pub would_be_done : reply_to (map_seen new) call ≡ reply.Done
  pub all : filled_count (map_seen new) + length new.retired ≡ new.table.shape.slots
  pub few : length new.retired ≤ new.table.shape.readers

abbrev pub IsAnswered : Call → Option Reply → Caller → Caller → Type 0
IsAnswered call (Some reply) old new = IsEntry call reply old new
IsAnswered call None old new = FindsNoSlot call old new

-- the replies that calls' answers stand for
abbrev pub asked_reply : Asked → Reply
asked_reply (asked.Send ticket) = reply.Send ticket.number
asked_reply asked.Waiting = reply.Waiting
asked_reply asked.Filled = reply.Filled

abbrev pub fill_reply : {Done : Type 0} → Result Done FillFault → Option Reply
fill_reply (Ok done) = Some reply.Done
fill_reply (Err fill.NotAsked) = Some reply.NotAsked
fill_reply (Err fill.Already) = Some reply.Already
fill_reply (Err fill.Stale) = Some reply.Stale
fill_reply (Err (fill.NoSlot counts)) = None

abbrev pub update_reply : {Done : Type 0} → Result Done UpdateFault → Option Reply
update_reply (Ok done) = Some reply.Done
update_reply (Err update.Dropped) = Some reply.Dropped
update_reply (Err update.NoRow) = Some reply.NoRow
update_reply (Err update.TooMany) = Some reply.TooMany
update_reply (Err (update.NoSlot counts)) = None

abbrev pub replace_reply : {Done : Type 0} → Result Done ReplaceFault → Option Reply
replace_reply (Ok done) = Some reply.Done
replace_reply (Err replace.Dropped) = Some reply.Dropped
replace_reply (Err (replace.NoSlot counts)) = None

abbrev pub evict_reply : Evict → Reply
evict_reply evict.Evicted = reply.Evicted
evict_reply evict.Nothing = reply.Nothing

abbrev pub cancel_reply : Cancel → Reply
cancel_reply cancel.Cancelled = reply.Cancelled
cancel_reply cancel.Nothing = reply.Nothing
cancel_reply cancel.Worn = reply.Worn

-- A HOLD. A pin has the rows that its find found, and each call of it leaves them, whatever is written meanwhile
-- (Pinned and PinsKey of Pins.antt).
abbrev pub IsPinned : ℕ → Caller → Result Pinned Caller → Type 0
IsPinned key old (Ok pin) = IsEntry (model.Find key) (reply.Rows pin.rows) old pin.reader
IsPinned key old (Err reader) = IsEntry (model.Find key) reply.Hole old reader

-- EACH CALL is one entry, with the reply that its answer stands for, or a write without a slot. Here are the words of
-- the calls' contracts. What finds of many keys, by a tag or of the first rows show, those contracts tell.
pub record EachCall {Room : Type 0} (shows : Room → List Row → Type 0) : Type 0 where
  pub find : (key : ℕ) (before rows : List Row) (answer : Found) (old new : Caller)
      → FindsKey key old before new rows answer → IsEntry (model.Find key) (answered answer rows) old new
  -- into any room, which shows the reply's rows
  pub find_into : (key : ℕ) (before room : Room) (answer : Found) (old new : Caller)
      → FindsIn shows key old before new room answer
      → (rows : List Row) × IsEntry (model.Find key) (answered answer rows) old new
      × (answer ≡ found.Rows → shows room rows)
  pub pin : (key : ℕ) (answer : Result Pinned Caller) (old : Caller) → PinsKey key old answer → IsPinned key old answer
  -- of a key that still has the set that a pin holds
  pub again : (key : ℕ) (rows : List Row) (old new : Caller) → FindsByPin key rows old new true
      → IsEntry (model.Find key) (reply.Rows rows) old new
  -- by a hand, which holds the set then
  pub find_kept : (key : ℕ) (before room : Room) (answer : Found) (old new : Handed)
      → FindsKept shows key old before new room answer
      → IsEntry (model.Find key) (answered answer new.rows) old.reader new.reader
  pub ask : (key : ℕ) (answer : Asked) (old new : Caller) → AsksKey key old new answer
      → IsEntry (model.Ask key) (asked_reply answer) old new
  pub look : (key : ℕ) (before rows : List Row) (answer : Found) (old new : Caller)
      → LooksAt key old before new rows answer → IsEntry (model.Find key) (answered answer rows) old new
  pub fill : (key number : ℕ) (rows : List Row) (answer : Result (Unit {0}) FillFault) (old new : Caller)
      → FillsKey key number rows old new answer → IsAnswered (model.Fill key number rows) (fill_reply answer) old new
  pub update : (bound key : ℕ) (batch : List Delta) (answer : Result (Unit {0}) UpdateFault) (old new : Caller)
      → UpdatesKey bound key batch old new answer → IsAnswered (model.Update key batch) (update_reply answer) old new
  pub replace : (key : ℕ) (rows : List Row) (answer : Result (Unit {0}) ReplaceFault) (old new : Caller)
      → ReplacesKey key rows old new answer → IsAnswered (model.Replace key rows) (replace_reply answer) old new
  pub evict : (key : ℕ) (answer : Evict) (old new : Caller) → EvictsKey key old new answer
      → IsEntry (model.Evict key) (evict_reply answer) old new
  pub cancel : (key : ℕ) (answer : Cancel) (old new : Caller) → CancelsKey key old new answer
      → IsEntry (model.Cancel key) (cancel_reply answer) old new
  -- and so with the set that a write gives out
  pub fill_reclaiming : (key number : ℕ) (rows : List Row) (before had : Room) (answer : Result Reclaimed FillFault)
      (old new : Caller) → FillsReclaiming shows key number rows old before new had answer
      → IsAnswered (model.Fill key number rows) (fill_reply answer) old new
  pub update_reclaiming : (bound key : ℕ) (batch : List Delta) (before had : Room)
      (answer : Result Reclaimed UpdateFault) (old new : Caller)
      → UpdatesReclaiming shows bound key batch old before new had answer
      → IsAnswered (model.Update key batch) (update_reply answer) old new
  pub replace_reclaiming : (key : ℕ) (rows : List Row) (before had : Room) (answer : Result Reclaimed ReplaceFault)
      (old new : Caller) → ReplacesReclaiming shows key rows old before new had answer
      → IsAnswered (model.Replace key rows) (replace_reply answer) old new

-- THE SLOT BOUND. With a slot for each key, each reader and one more (HasRoomForAll of SlotBounds.antt) no write lacks
-- one.
abbrev pub NoWriteLacksASlot : Type 0
NoWriteLacksASlot = (call : Call) (old new : Caller) → HasRoomForAll old.table → FindsNoSlot call old new → ⊥

-- NOTES. A token hears a note, and makes whatever calls then (HearsNote of nr_board's Meetings.antt): each is answered
-- after all that the note's maker had seen.
abbrev pub AnswersWhatWasHeard : Type 0
AnswersWhatWasHeard =
    (steps : ℕ) (note : Known) (old heard asking new : Caller) (call : Call) (reply : Reply) →
    HearsNote steps note old heard →
    StartsWith asking.seen heard.seen →
    IsEntry call reply asking new →
    (log : List Entry) × StartsWith log note.seen × StartsWith new.seen log
    × (reply ≡ reply_to (after (map_at_opening asking.table) log) call)

-- ALL OF IT, with the sets that come out of a map: who puts sets by calls that give out what they replace, and takes
-- the map apart at its end, gets each set once, with its rows, and no other (Run and IsEachOnce of GivenBack.antt).
pub record Theorem {Room : Type 0} (shows : Room → List Row → Type 0) : Type 0 where
  pub calls : EachCall shows
  pub slots : NoWriteLacksASlot
  pub notes : AnswersWhatWasHeard
  pub sets : EachSetComesOutOnce shows
