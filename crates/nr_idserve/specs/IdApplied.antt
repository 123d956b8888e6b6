-- How much a dataflow by id has applied so far, and what a note of its map tells of it.
use Rattle.std.specs.Prelude.{◌≡◌, ◌⊎◌, ◌<◌, ◌≤◌, ℕ, true, List, ◌∷◌, [], ◌++◌, Option, None, Some, slice_index}
use Rattle.nr_model.specs.declared.rows.Row.{Row}
use Rattle.nr_model.specs.Histories.{Entry}
use Rattle.nr_core.specs.Puts.{puts_at}
use Rattle.nr_board.specs.Meetings.{known_to}
use Rattle.nr_board.specs.Rule.{StartsWith}
use Rattle.nr_ids.specs.Events.{name_of}
use Rattle.nr_ids.specs.Rule.{BeginsWith}
use Rattle.nr_ids.specs.Tokens as ids
use Rattle.nr_idmap.specs.declared.finds.FoundId.{FoundId}
use Rattle.nr_idmap.specs.declared.finds.FoundId.TheVariants as found
use Rattle.nr_idmap.specs.IdHeard.{FindsIdPut, HeardPut, IsUnnamedSince}
use Rattle.nr_idmap.specs.IdNotes.{HearsIdNote, IdKnown, with_steps_of_split}
use Rattle.nr_idmap.specs.Keepers.{IdCaller, Keeper}
use Rattle.nr_serve.specs.Applied.{HasPut}
use Rattle.nr_serve.specs.Counts.{GuestSeen, closed_at}
use Rattle.nr_idserve.specs.declared.answers.GotId.{GotId}
use Rattle.nr_idserve.specs.declared.answers.GotId.TheVariants as got
use Rattle.nr_idserve.specs.declared.answers.Missed.{Missed}
use Rattle.nr_idserve.specs.declared.hands.IdHands.{IdHands}
use Rattle.nr_idserve.specs.IdGets.{EndsAfter, GetsId, Getting, MissesAll}

-- the amount that was told last, with a note of then
pub record IdTelling : Type 0 where
  pub amount : ℕ
  pub note : Option IdKnown

-- what a writer's note tells
abbrev pub known_to_keeper : Keeper → IdKnown
known_to_keeper keeper = record { map = known_to keeper.writer; ids = ids.known_to keeper.clerk }

-- the way had the id's name, and had been put, when the note was made
abbrev pub HasPutInWay : ℕ → ℕ → IdKnown → Type 0
HasPutInWay id way note = (name_of note.ids.seen way ≡ id) × HasPut way note.map

-- the reader made whatever calls since it was that one
pub record IsSince (heard asking : IdCaller) : Type 0 where
  pub table : asking.caller.table ≡ heard.caller.table
  pub seen : StartsWith asking.caller.seen heard.caller.seen
  pub ids : BeginsWith asking.ids.seen heard.ids.seen

-- so it is of each find of tries that found no rows: of its reader before and after, and its answer
abbrev pub EachFind : (IdCaller → IdCaller → FoundId → Type 0)
    → (capacity id : ℕ) (old new : IdHands) (all : List Missed) → MissesAll capacity id old new all → Type 0
EachFind holds capacity id old new [] tries = Unit {0}
EachFind holds capacity id old new (missed ∷ before) (between, tries, last) =
    EachFind holds capacity id old between before tries × holds last.posted.reader last.reader last.answer

module _ {Room : Type 0} (shows : Room → List Row → Type 0) where
  -- and of the find by which the get ended, if it found rows
  abbrev pub LastFind : (IdCaller → IdCaller → FoundId → Type 0)
      → (get : Getting) (missed : ℕ) (between : IdHands) (before : Room) (new : IdHands) (after : Room) (answer : GotId)
      → EndsAfter shows get missed between before new after answer → Type 0
  LastFind holds get missed between before new after got.Rows (_, last) = holds last.posted.reader new.reader found.Rows
  LastFind holds get missed between before new after got.GaveUp ends = Unit {0}

  -- the find tells of that put of the id's way or of what came after it, unless the way lost the name since the note
  abbrev pub TellsOfPut : HeardPut → IdKnown → Room → IdCaller → IdCaller → FoundId → Type 0
  TellsOfPut put note room asked after answer =
      IsUnnamedSince note.ids.seen put.way after.ids.seen ⊎ FindsIdPut shows put asked after room answer

module _ (reached : ℕ → IdKnown → Type 0) where
  -- of so much at least the reader heard: it split a note whose maker had seen it, and heard that; or the lobby is
  -- closed, and the reader is as it was
  abbrev pub HearsIdApplied : ℕ → GuestSeen → IdCaller → IdCaller → Option ℕ → Type 0
  HearsIdApplied least guest old new (Some amount) =
      (least ≤ amount) × (note : IdKnown) × reached amount note × HearsIdNote note (with_steps_of_split old) new
  HearsIdApplied least guest old new None = (new ≡ old) × (0 < slice_index guest.seen closed_at)

  -- the note of so much always has that
  abbrev pub HasPutOfId : (id way amount : ℕ) → Type 0
  HasPutOfId id way amount = (note : IdKnown) → reached amount note → HasPutInWay id way note

  -- a client that heard of so much, by when the id's way had been put, and then gets the id: each find of the get tells
  -- of that put of the way or of what came after it, unless the way lost the name since
  abbrev pub GetsIdWhatWasApplied : {Room : Type 0} → (Room → List Row → Type 0) → Type 0
  GetsIdWhatWasApplied {Room = Room} shows =
      (old heard : IdCaller) (least amount : ℕ) (guest : GuestSeen) (asking new : IdHands) (capacity id way tries : ℕ)
      (room_before room : Room) (answer : GotId)
      →
      way < old.caller.table.shape.keys →
      0 < id →
      HasPutOfId id way amount →
      HearsIdApplied least guest old heard (Some amount) →
      IsSince heard asking.reader →
      (gets : GetsId shows (record { capacity = capacity; id = id; tries = tries }) asking room_before new room answer)
      →
      (note : IdKnown) × (before since : List Entry) × (put : Entry) × (puts_at way put ≡ true)
      × EachFind
      (TellsOfPut shows (record { id = id; way = way; old = old; written = before ++ put ∷ []; since = since }) note
      room_before)
      capacity id asking gets.between gets.misses.each gets.misses.all
      × LastFind shows
      (TellsOfPut shows (record { id = id; way = way; old = old; written = before ++ put ∷ []; since = since }) note
      room)
      (record { capacity = capacity; id = id; tries = tries }) gets.missed gets.between room_before new room answer
      gets.ends
