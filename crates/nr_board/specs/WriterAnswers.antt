-- What a call of the writer says of its token, by its answer.
use Rattle.std.specs.Prelude.{◌≡◌, ℕ, suc, ◌+◌, ◌*◌, ◌<◌, List, [], ◌∷◌, ◌++◌, length, slice_index, slice_set, Result}
use Rattle.std.specs.Prelude.{Ok, Err}
use Rattle.nr_model.specs.declared.rows.Row.{Row}
use Rattle.nr_model.specs.Rows.{IsRowSet}
use Rattle.nr_model.specs.declared.batches.ApplyFault.TheVariants as fault
use Rattle.nr_model.specs.declared.batches.Delta.{Delta}
use Rattle.nr_model.specs.declared.calls.Call.{Call}
use Rattle.nr_model.specs.declared.calls.Call.TheVariants as model
use Rattle.nr_model.specs.declared.calls.Reply.{Reply}
use Rattle.nr_model.specs.declared.calls.Reply.TheVariants as reply
use Rattle.nr_model.specs.Batches.{applied}
use Rattle.nr_model.specs.Histories.{Entry, after, entries_of}
use Rattle.nr_model.specs.Maps.{call_key, state_of}
use Rattle.nr_model.specs.declared.states.KeyState.TheVariants as states
use Rattle.nr_core.specs.declared.places.Retired.{Retired}
use Rattle.nr_core.specs.declared.calls.NoSlot.{NoSlot}
use Rattle.nr_board.specs.declared.answers.Cancel.{Cancel}
use Rattle.nr_board.specs.declared.answers.Cancel.TheVariants as cancel
use Rattle.nr_board.specs.declared.answers.Evict.{Evict}
use Rattle.nr_board.specs.declared.answers.Evict.TheVariants as evict
use Rattle.nr_board.specs.declared.answers.FillFault.{FillFault}
use Rattle.nr_board.specs.declared.answers.FillFault.TheVariants as fill
use Rattle.nr_board.specs.declared.answers.ReplaceFault.{ReplaceFault}
use Rattle.nr_board.specs.declared.answers.ReplaceFault.TheVariants as replace
use Rattle.nr_board.specs.declared.answers.UpdateFault.{UpdateFault}
use Rattle.nr_board.specs.declared.answers.UpdateFault.TheVariants as update
use Rattle.nr_board.specs.declared.answers.Found.{Found}
use Rattle.nr_board.specs.declared.answers.Found.TheVariants as found
use Rattle.nr_board.specs.Callers.{Caller, Gains, Grows, map_at_opening}
use Rattle.nr_board.specs.Plays.{Lacks}
use Rattle.nr_core.specs.SlotLists.{SlotLists}
use Rattle.nr_board.specs.SlotLists.{AreFewSteps, SearchedAll, TookBySearch, lists_of}
use Rattle.nr_core.specs.Marks.{Marks, LoggedLoad, with_loads, with_name, with_polls, with_scan, without_name}
use Rattle.nr_core.specs.Puts.{put_count}
use Rattle.nr_core.specs.PollNotes.{Noted}
use Rattle.nr_board.specs.Polls.{KeptBack}

-- the writer's slots and numbers are as they were, and what it heard, and the call polled none
abbrev pub SlotsStay : Caller → Caller → Type 0
SlotsStay old new = (lists_of new ≡ lists_of old) × (new.marks ≡ with_polls old.marks []) × (new.heard ≡ old.heard)

-- the slot that the key named, as the map's words have it, is retired behind the others
pub record RetiresOne (key : ℕ) (old : Caller) (before after : List Retired) : Type 0 where
  pub slot : ℕ
  pub arrivals : ℕ
  pub named : slice_index old.marks.names key ≡ suc slot
  pub retires : after ≡ before ++ record { slot = slot; arrivals = arrivals } ∷ []

-- an update, a replacement and an eviction retire the slot that their key named; a fill's key named none
abbrev pub Retires : Call → Caller → List Retired → List Retired → Type 0
Retires (model.Find key) old before after = after ≡ before
Retires (model.Ask key) old before after = after ≡ before
Retires (model.Fill key number rows) old before after = (slice_index old.marks.names key ≡ 0) × (after ≡ before)
Retires (model.Update key batch) old before after = RetiresOne key old before after
Retires (model.Replace key rows) old before after = RetiresOne key old before after
Retires (model.Evict key) old before after = RetiresOne key old before after
Retires (model.Cancel key) old before after = after ≡ before

-- the key had that set, after what the caller had seen and learnt before its own entry
abbrev pub KeyHad : ℕ → List Row → Caller → List Entry → Type 0
KeyHad key rows old between =
    (number : ℕ) × (state_of (after (map_at_opening old.table) (old.seen ++ between)) key ≡ states.Rows number rows)

-- a find of the writer's own
abbrev pub LooksAt : ℕ → Caller → List Row → Caller → List Row → Found → Type 0
LooksAt key old before new rows found.Rows =
    Gains (2 * length rows + 2) (model.Find key) old new (reply.Rows rows) × SlotsStay old new
LooksAt key old before new rows found.Hole =
    Gains 1 (model.Find key) old new reply.Hole × SlotsStay old new × (rows ≡ before)

-- into any room, of rows that ascend and are at most the map's rows
abbrev pub LooksIn : {Room : Type 0} → (Room → List Row → Type 0) → ℕ → Caller → Room → Caller → Room → Found → Type 0
LooksIn shows key old before new room found.Rows =
    (rows : List Row) × Gains (2 * length rows + 2) (model.Find key) old new (reply.Rows rows) × SlotsStay old new
    × shows room rows × IsRowSet old.table.shape.rows rows
LooksIn shows key old before new room found.Hole =
    Gains 1 (model.Find key) old new reply.Hole × SlotsStay old new × (room ≡ before)

-- a call that put a set, besides its other steps: by so many steps it took a slot, it put each word and named the slot
-- at its key, with the next put number, and retired what the key named before
pub record Publishes (steps : ℕ) (call : Call) (rows : List Row) (old new : Caller) : Type 0 where
  pub searched : ℕ
  pub slot : ℕ
  pub inside : slot < old.table.shape.slots
  pub mid : SlotLists
  -- what was heard when the search ended, of the slot's new set nothing is; and its polls and loads of readers' words
  pub scanned : List ℕ
  pub loads : List LoggedLoad
  pub took : TookBySearch old.table old.heard scanned loads slot searched (lists_of old) mid
  pub heard : new.heard ≡ slice_set scanned slot 0
  pub few : AreFewSteps old.table searched
  pub fresh : new.fresh ≡ mid.fresh
  pub numbers : new.numbers ≡ old.numbers
  pub retires : Retires call old mid.retired new.retired
  pub number : ℕ
  pub count : put_count new.seen ≡ suc number
  pub put : slice_index new.marks.puts slot ≡ number
  pub marks : new.marks ≡ with_name (with_loads old.marks (old.marks.loads ++ loads)) (call_key call) slot number rows
  pub gains : Gains (steps + 2 * length rows + 2 + searched) call old new reply.Done

-- A call that found no slot, after that many other steps and a search of all retired slots. It is no entry: the writer
-- has learnt readers' entries alone.
pub record HasNoSlot (steps : ℕ) (call : Call) (old new : Caller) (counts : NoSlot) : Type 0 where
  pub searched : ℕ
  pub loads : List LoggedLoad
  pub all : SearchedAll old.table old.heard new.heard loads old.retired searched
  pub grows : Grows (steps + searched) [] old new
  pub readers : entries_of grows.between old.number ≡ []
  -- it would be done now, and each slot is a filled key's or was kept back by a reader
  pub lacks : Lacks call counts new
  -- each retired slot was kept back by a noted reader, which held it at its poll, or whose word said it; as many were
  -- noted as slots are retired, each another one
  pub kept : KeptBack old.table.shape.readers old.seen new.seen loads old.retired new.marks.polls
  -- where no reader has a word, the noted one had made no fewer acts than the writer knew of
  pub noted : old.table.announcers ≡ 0 → Noted old.table.shape old.pasts new.marks.polls
  pub slots : lists_of new ≡ lists_of old
  pub marks : new.marks ≡ with_scan old.marks new.marks.polls (old.marks.loads ++ loads)

-- a fill names the number of the request that it answers
abbrev pub FillsKey : ℕ → ℕ → List Row → Caller → Caller → Result (Unit {0}) FillFault → Type 0
FillsKey key number rows old new (Ok done) = Publishes 1 (model.Fill key number rows) rows old new
FillsKey key number rows old new (Err fill.NotAsked) =
    Gains 1 (model.Fill key number rows) old new reply.NotAsked × SlotsStay old new
FillsKey key number rows old new (Err fill.Already) =
    Gains 1 (model.Fill key number rows) old new reply.Already × SlotsStay old new
FillsKey key number rows old new (Err fill.Stale) =
    Gains 1 (model.Fill key number rows) old new reply.Stale × SlotsStay old new
FillsKey key number rows old new (Err (fill.NoSlot counts)) = HasNoSlot 1 (model.Fill key number rows) old new counts

-- an update that looked, read that set and was answered so
abbrev pub GainsUpdate : ℕ → List Delta → List Row → Caller → Caller → Reply → Type 0
GainsUpdate key batch set old new answer = Gains (2 * length set + 2) (model.Update key batch) old new answer

-- an update that looked, read that set and found no slot
abbrev pub UpdateHasNoSlot : ℕ → List Delta → List Row → Caller → Caller → NoSlot → Type 0
UpdateHasNoSlot key batch set old new counts = HasNoSlot (2 * length set + 2) (model.Update key batch) old new counts

-- an update looks, reads the set that the key has before the call's entry, and applies the batch to it
abbrev pub UpdatesKey : ℕ → ℕ → List Delta → Caller → Caller → Result (Unit {0}) UpdateFault → Type 0
UpdatesKey bound key batch old new (Ok done) =
    (set left : List Row) × (applied bound set batch ≡ Ok left)
    × (published : Publishes (2 * length set + 2) (model.Update key batch) left old new)
    × KeyHad key set old published.gains.between
UpdatesKey bound key batch old new (Err update.Dropped) =
    Gains 1 (model.Update key batch) old new reply.Dropped × SlotsStay old new
UpdatesKey bound key batch old new (Err update.NoRow) =
    (set : List Row) × (applied bound set batch ≡ Err fault.NoRow)
    × (gains : GainsUpdate key batch set old new reply.NoRow) × KeyHad key set old gains.between × SlotsStay old new
UpdatesKey bound key batch old new (Err update.TooMany) =
    (set : List Row) × (applied bound set batch ≡ Err fault.TooMany)
    × (gains : GainsUpdate key batch set old new reply.TooMany) × KeyHad key set old gains.between
    × SlotsStay old new
UpdatesKey bound key batch old new (Err (update.NoSlot counts)) =
    (set left : List Row) × (applied bound set batch ≡ Ok left)
    × (without : UpdateHasNoSlot key batch set old new counts) × KeyHad key set old without.grows.between

-- a replacement looks, and reads nothing of the set that the key had
abbrev pub ReplacesKey : ℕ → List Row → Caller → Caller → Result (Unit {0}) ReplaceFault → Type 0
ReplacesKey key rows old new (Ok done) = Publishes 1 (model.Replace key rows) rows old new
ReplacesKey key rows old new (Err replace.Dropped) =
    Gains 1 (model.Replace key rows) old new reply.Dropped × SlotsStay old new
ReplacesKey key rows old new (Err (replace.NoSlot counts)) = HasNoSlot 1 (model.Replace key rows) old new counts

-- the marks after a swap without polls that leaves the key no slot
abbrev pub after_unnaming : Marks → ℕ → Marks
after_unnaming marks key = without_name (with_polls marks []) key

-- an eviction retires the key's slot
abbrev pub EvictsKey : ℕ → Caller → Caller → Evict → Type 0
EvictsKey key old new evict.Evicted =
    Gains 2 (model.Evict key) old new reply.Evicted × (new.fresh ≡ old.fresh) × (new.numbers ≡ old.numbers)
    × RetiresOne key old old.retired new.retired × (new.marks ≡ after_unnaming old.marks key)
    × (new.heard ≡ old.heard)
EvictsKey key old new evict.Nothing = Gains 1 (model.Evict key) old new reply.Nothing × SlotsStay old new

-- the writer's slots and numbers, where the key has the next number
abbrev pub with_next_number : Caller → ℕ → SlotLists
with_next_number old key =
    record (lists_of old) { numbers = slice_set old.numbers key (slice_index old.numbers key + 1) }

-- a cancel gives the key the next number; it retires no slot, and no key names another
abbrev pub CancelsKey : ℕ → Caller → Caller → Cancel → Type 0
CancelsKey key old new cancel.Cancelled =
    Gains 2 (model.Cancel key) old new reply.Cancelled × (lists_of new ≡ with_next_number old key)
    × (new.marks ≡ with_polls old.marks []) × (new.heard ≡ old.heard)
CancelsKey key old new cancel.Nothing = Gains 1 (model.Cancel key) old new reply.Nothing × SlotsStay old new
CancelsKey key old new cancel.Worn = Gains 1 (model.Cancel key) old new reply.Worn × SlotsStay old new
