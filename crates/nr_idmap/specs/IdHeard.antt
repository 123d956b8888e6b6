-- What a find by id answers that comes after a note of the id's fill.
use Rattle.std.specs.Prelude.{◌≡◌, ◌≢◌, ◌<◌, ◌⊎◌, ℕ, true, List, [], ◌∷◌, ◌++◌}
use Rattle.std.specs.List.{count_by}
use Rattle.nr_model.specs.declared.rows.Row.{Row}
use Rattle.nr_model.specs.declared.calls.Reply.{Reply}
use Rattle.nr_model.specs.declared.calls.Reply.TheVariants as reply
use Rattle.nr_model.specs.declared.calls.Call.TheVariants.{Find}
use Rattle.nr_model.specs.declared.states.KeyState.TheVariants as state
use Rattle.nr_model.specs.Histories.{Entry, after}
use Rattle.nr_model.specs.Maps.{state_of}
use Rattle.nr_core.specs.Story.{entry}
use Rattle.nr_core.specs.Puts.{puts_at}
use Rattle.nr_board.specs.Callers.{map_at_opening}
use Rattle.nr_board.specs.Rule.{StartsWith}
use Rattle.nr_map.specs.Written.{FindsPut, HeardBefore, evicts_at}
use Rattle.nr_ids.specs.Events.{Event, name_of, unnamed}
use Rattle.nr_ids.specs.Laws.{Has}
use Rattle.nr_ids.specs.Rule.{BeginsWith}
use Rattle.nr_ids.specs.Tokens.{HasName}
use Rattle.nr_idmap.specs.declared.finds.FoundId.{FoundId}
use Rattle.nr_idmap.specs.declared.finds.FoundId.TheVariants as found
use Rattle.nr_idmap.specs.IdFinds.{FindsById}
use Rattle.nr_idmap.specs.IdHands.{IdHanded, PinsById, hand_table_of}
use Rattle.nr_idmap.specs.IdNotes.{IdKnown}
use Rattle.nr_idmap.specs.Keepers.{IdCaller, IsTied, Keeper}
use Rattle.nr_idmap.specs.Tags.{tag_of}

-- the reader heard the note, and made whatever calls then
pub record HeardIdBefore (note : IdKnown) (old asking : IdCaller) : Type 0 where
  pub map : HeardBefore note.map old.caller asking.caller
  pub ids : BeginsWith asking.ids.seen note.ids.seen

-- the way's name was taken since the note
abbrev pub IsUnnamedSince : List Event → ℕ → List Event → Type 0
IsUnnamedSince told way seen = (rest : List Event) × (seen ≡ rest ++ told) × Has (unnamed way) rest

-- what a find by id that looked in the way was answered there
abbrev pub TellsOfWay : {Room : Type 0} → (Room → List Row → Type 0) → ℕ → Room → FoundId → Reply → Type 0
TellsOfWay shows id room found.Rows told = (rows : List Row) × (told ≡ reply.Rows (tag_of id ∷ rows)) × shows room rows
TellsOfWay shows id room found.Pending told = told ≡ reply.Hole
TellsOfWay shows id room found.Moved told =
    (set : List Row) × (told ≡ reply.Rows set) × ((rows : List Row) → set ≢ tag_of id ∷ rows)
TellsOfWay shows id room found.Absent told = ⊥

-- a put of an id's way that a note tells of: who heard the note, and the history up to the put and since
pub record HeardPut : Type 0 where
  pub id : ℕ
  pub way : ℕ
  pub old : IdCaller
  pub written : List Entry
  pub since : List Entry

-- that is the put of which the note told, or what came after it
pub record FindsIdPut {Room : Type 0} (shows : Room → List Row → Type 0) (put : HeardPut) (asking new : IdCaller)
    (room : Room) (answer : FoundId) : Type 0 where
  pub told : Reply
  pub tells : TellsOfWay shows put.id room answer told
  pub more : List Entry
  pub seen : new.caller.seen
      ≡ (put.written ++ (put.since ++ more)) ++ entry asking.caller.number (Find put.way) told ∷ []
  pub finds : FindsPut (map_at_opening put.old.caller.table) put.way put.written (put.since ++ more) told

-- the note's maker had seen the way's name, and a put of its rows; who heard the note finds that put or what came after
-- it, unless the name was taken since
abbrev pub FindsIdHeard : {Room : Type 0} → (Room → List Row → Type 0) → Type 0
FindsIdHeard {Room = Room} shows =
    (old asking new : IdCaller) (note : IdKnown) (id way : ℕ) (before since : List Entry) (put : Entry)
    (before_it room : Room) (answer : FoundId)
    →
    way < old.caller.table.shape.keys →
    0 < id →
    name_of note.ids.seen way ≡ id →
    note.map.seen ≡ (before ++ put ∷ []) ++ since →
    puts_at way put ≡ true →
    HeardIdBefore note old asking →
    FindsById shows id asking before_it new room answer →
    IsUnnamedSince note.ids.seen way new.ids.seen
    ⊎ FindsIdPut shows (record { id = id; way = way; old = old; written = before ++ put ∷ []; since = since })
    asking new room answer

-- the put of which the note told left the way the id's rows; the writer has heard of the find since, and the find's
-- history has no later eviction of the way: the find was answered with rows, unless the name was taken since
abbrev pub FindsItsRows : {Room : Type 0} → (Room → List Row → Type 0) → Type 0
FindsItsRows {Room = Room} shows =
    (keeper : Keeper) (old asking new : IdCaller) (note : IdKnown) (id way number : ℕ) (rows : List Row)
    (before since : List Entry) (put : Entry) (before_it room : Room) (answer : FoundId)
    →
    IsTied keeper →
    old.caller.table ≡ keeper.table.map →
    StartsWith keeper.writer.seen new.caller.seen →
    way < old.caller.table.shape.keys →
    0 < id →
    name_of note.ids.seen way ≡ id →
    note.map.seen ≡ (before ++ put ∷ []) ++ since →
    puts_at way put ≡ true →
    state_of (after (map_at_opening old.caller.table) (before ++ put ∷ [])) way ≡ state.Rows number (tag_of id ∷ rows) →
    count_by (evicts_at way) new.caller.seen ≡ count_by (evicts_at way) (before ++ put ∷ []) →
    HeardIdBefore note old asking →
    FindsById shows id asking before_it new room answer →
    IsUnnamedSince note.ids.seen way new.ids.seen ⊎ (answer ≡ found.Rows)

-- a hand had seen the way's name, and that the way had the id's rows; the writer has heard of the find since, and the
-- find's history has no later eviction of the way: the find was answered with rows, unless the name was taken since
abbrev pub PinsItsRows : Type 0
PinsItsRows =
    (keeper : Keeper) (old new : IdHanded) (id way number : ℕ) (rows : List Row) (before since : List Entry)
    (answer : FoundId)
    →
    IsTied keeper →
    hand_table_of old ≡ keeper.table →
    StartsWith keeper.writer.seen new.hand.reader.seen →
    0 < id →
    HasName old.ids way id →
    old.hand.reader.seen ≡ before ++ since →
    state_of (after (map_at_opening old.hand.reader.table) before) way ≡ state.Rows number (tag_of id ∷ rows) →
    count_by (evicts_at way) new.hand.reader.seen ≡ count_by (evicts_at way) before →
    PinsById id old new answer →
    IsUnnamedSince old.ids.seen way new.ids.seen ⊎ (answer ≡ found.Rows)
