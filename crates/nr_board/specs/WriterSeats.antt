-- Where the writer's seat stands between two steps, and where a step leads it.
use Rattle.std.specs.Prelude.{◌≡◌, ℕ, suc, ◌+◌, ◌*◌, ◌<◌, ◌≤◌, nat_lt, if◌then◌else◌, false, List, [], ◌∷◌, ◌++◌}
use Rattle.std.specs.Prelude.{length, slice_index, slice_set}
use Rattle.atomic_table.specs.declared.shared.Seat.{Seat}
use Rattle.nr_model.specs.declared.rows.Row.{Row}
use Rattle.nr_model.specs.declared.calls.Call.{Call}
use Rattle.nr_model.specs.declared.calls.Reply.TheVariants as reply
use Rattle.nr_model.specs.Histories.{Entry}
use Rattle.nr_model.specs.Maps.{state_of}
use Rattle.nr_model.specs.declared.states.KeyState.TheVariants as states
use Rattle.nr_words.specs.SetWords.{encode}
use Rattle.nr_core.specs.Core.{AreNumbers}
use Rattle.nr_core.specs.Slots.{content}
use Rattle.nr_core.specs.States.{key_of, number_at, retired_at}
use Rattle.nr_core.specs.Story.{call_of, ending, entry, map_after}
use Rattle.nr_core.specs.Writer.{desk_in, moved_to, no_slot, settled, step_in, unnamed, went}
use Rattle.nr_core.specs.declared.calls.NoSlot.{NoSlot}
use Rattle.nr_core.specs.declared.calls.Step.{Step}
use Rattle.nr_core.specs.declared.calls.Step.TheVariants.{Ended, Going}
use Rattle.nr_core.specs.declared.shape.Shape.{Shape}
use Rattle.nr_core.specs.declared.calls.WReply.TheVariants as writer
use Rattle.nr_core.specs.declared.calls.WriterCall.{WriterCall}
use Rattle.nr_core.specs.declared.places.Place.TheVariants.{Idle, Leaving, Putting, Reading, Searching, Withdrawing}
use Rattle.nr_core.specs.declared.roles.Desk.{Desk}
use Rattle.nr_core.specs.declared.roles.Role.TheVariants.{Writer}
use Rattle.nr_board.specs.Callers.{Grows, KnowsOwn, Table, map_seen, token, IsSound}
use Rattle.nr_core.specs.SlotLists.{SlotLists}
use Rattle.nr_board.specs.Announcing.{heard_at}
use Rattle.nr_board.specs.SlotLists.{AreFewSteps, SearchedAll, TookBySearch, desk_with}
use Rattle.nr_board.specs.Plays.{Finds, Lacks, NotesTell, Room, SwapsAt, call_at, next_put}
use Rattle.nr_board.specs.Polls.{KeptBack}
use Rattle.nr_core.specs.MarkSteps.{GoesMarks}
use Rattle.nr_core.specs.Marks.{LoggedLoad, with_loads, with_name, with_scan}
use Rattle.nr_core.specs.PollNotes.{Noted}
use Rattle.nr_core.specs.Puts.{put_count}
use Rattle.nr_board.specs.Views.{View, view_of}

abbrev pub MapSeat : Type 0
MapSeat = Seat (Unit {0}) View

-- the writer's seat, at a desk whose numbers are those of the history that it knows
pub record WritesAt (table : Table) (desk : Desk) (seat : MapSeat) : Type 0 where
  pub own : (token seat).table ≡ table
  pub role : (view_of seat).role ≡ Writer desk
  pub room : Room table.shape desk
  pub numbers : AreNumbers table.shape (map_seen (token seat)) desk.numbers

-- between calls
pub record IsBetween (table : Table) (seat : MapSeat) : Type 0 where
  pub desk : Desk
  pub writes : WritesAt table desk seat
  pub place : desk.place ≡ Idle

-- about to read the word at that index of the slot whose content begins there
pub record IsReading (table : Table) (begin index : ℕ) (seat : MapSeat) : Type 0 where
  pub desk : Desk
  pub writes : WritesAt table desk seat
  pub call : WriterCall
  pub slot : ℕ
  pub got : List ℕ
  pub place : desk.place ≡ Reading call slot got
  pub begin_is : begin ≡ content table.shape slot 0
  pub index_is : index ≡ length got

-- about to poll the retired slot
pub record IsPolling (table : Table) (slot : ℕ) (seat : MapSeat) : Type 0 where
  pub desk : Desk
  pub writes : WritesAt table desk seat
  pub call : WriterCall
  pub rows : List Row
  pub poll : ℕ
  pub place : desk.place ≡ Searching call rows poll
  pub slot_is : slot ≡ (retired_at desk poll).slot
  -- the slots before it were polled, and found held
  pub in_order : length (view_of seat).marks.polls ≡ poll
  -- all readers that have a word were heard not to say the slot
  pub heard : table.announcers ≤ slice_index (view_of seat).heard slot

-- about to put the word at that index of the slot whose content begins there
pub record IsPutting (table : Table) (begin index word : ℕ) (seat : MapSeat) : Type 0 where
  pub desk : Desk
  pub writes : WritesAt table desk seat
  pub call : WriterCall
  pub rows : List Row
  pub slot : ℕ
  pub departed : ℕ
  pub place : desk.place ≡ Putting call rows slot departed index
  pub begin_is : begin ≡ content table.shape slot 0
  pub more : index ≤ 2 * length rows
  pub word_is : word ≡ slice_index (encode rows) index

-- about to publish the slot, whose words are all put
pub record IsPublishing (table : Table) (key slot departed : ℕ) (seat : MapSeat) : Type 0 where
  pub desk : Desk
  pub writes : WritesAt table desk seat
  pub call : WriterCall
  pub rows : List Row
  pub place : desk.place ≡ Putting call rows slot departed (2 * length rows + 1)
  pub key_is : key ≡ key_of call

-- about to evict the key, whose number is this
pub record IsLeaving (table : Table) (key number : ℕ) (seat : MapSeat) : Type 0 where
  pub desk : Desk
  pub writes : WritesAt table desk seat
  pub place : desk.place ≡ Leaving key
  pub number_is : number ≡ number_at desk key

-- about to take the key's request back, after which its number is this
pub record IsWithdrawing (table : Table) (key number : ℕ) (seat : MapSeat) : Type 0 where
  pub desk : Desk
  pub writes : WritesAt table desk seat
  pub place : desk.place ≡ Withdrawing key
  pub number_is : number ≡ number_at desk key + 1

-- that many steps of a call, to the desk of the outcome, with the entry of a call that ends there with a reply
pub record LeadsIn (steps : ℕ) (table : Table) (call : Call) (outcome : Desk × Step) (old new : MapSeat) : Type 0 where
  pub writes : WritesAt table (desk_in outcome) new
  pub grows : Grows steps (ending call (step_in outcome)) (token old) (token new)
  pub short : (counts : NoSlot) → step_in outcome ≡ Ended (writer.NoSlot counts) → Lacks call counts (token new)

abbrev pub LeadsTo : Table → Call → Desk × Step → MapSeat → MapSeat → Type 0
LeadsTo = LeadsIn 1

-- one step from the stage of the call
pub record GoesTo (table : Table) (desk : Desk) (found : ℕ) (old new : MapSeat) : Type 0 where
  pub leads : LeadsTo table (call_at desk.place) (went table.shape desk desk.place found) old new
  pub log : List Entry
  pub seen : (view_of new).seen ≡ log ++ ending (call_at desk.place) (step_in (went table.shape desk desk.place found))
  pub finds : Finds table.shape desk.place found log (view_of old).marks
  pub notes : NotesTell log (view_of old).marks.polls (view_of new).marks.polls
  pub marks : GoesMarks table.shape (view_of old).marks (view_of old).pasts desk found (view_of new).role
      (view_of new).seen (view_of new).marks
      []
  pub heard : (view_of new).heard ≡ heard_at desk.place (view_of old).heard

abbrev pub GoesOn : Table → ℕ → MapSeat → MapSeat → Type 0
GoesOn table found old new = (desk : Desk) → (view_of old).role ≡ Writer desk → GoesTo table desk found old new

-- a put
pub record PutsTo (table : Table) (desk : Desk) (old new : MapSeat) : Type 0 where
  pub writes : WritesAt table (next_put desk) new
  pub grows : Grows 1 [] (token old) (token new)
  pub marks : (view_of new).marks ≡ (view_of old).marks
  pub heard : (view_of new).heard ≡ heard_at desk.place (view_of old).heard

-- the call has its set, and looks for a slot
pub record Settles (table : Table) (call : WriterCall) (rows : List Row) (lists : SlotLists)
    (seat : MapSeat) : Type 0 where
  pub slots : lists.slots ≡ table.shape.slots
  pub writes : WritesAt table (desk_in (settled table.shape (desk_with lists Idle) call rows)) seat
  pub short : (counts : NoSlot)
      → step_in (settled table.shape (desk_with lists Idle) call rows) ≡ Ended (writer.NoSlot counts)
      → Lacks (call_of call) counts (token seat)
  pub knows : IsSound (token seat)
  pub polls : (view_of seat).marks.polls ≡ []

-- the key's set after the history before the step that ended a read-through
pub record KeyHas (table : Table) (call : WriterCall) (rows : List Row) (step : Step) (seat : MapSeat) : Type 0 where
  pub log : List Entry
  pub seen : (view_of seat).seen ≡ log ++ ending (call_of call) step
  pub number : ℕ
  pub state : state_of (map_after table.shape log) (key_of call) ≡ states.Rows number rows

-- the search has found each of the first retired slots held
abbrev pub swept : Shape → Desk → WriterCall → List Row → ℕ → Desk × Step
swept shape desk call rows polls =
    (if nat_lt polls (length desk.retired) then (moved_to desk (Searching call rows polls), Going) else
    (moved_to desk Idle, no_slot shape desk))

-- the slot that a call took, with its departures, or there was none
pub record TakesSlot (table : Table) (call : WriterCall) (rows : List Row) (old : MapSeat) (lists : SlotLists)
    (new : MapSeat) (after : SlotLists) (slot departed : ℕ) : Type 0 where
  pub steps : ℕ
  pub loads : List LoggedLoad
  pub took : TookBySearch table (view_of old).heard (view_of new).heard loads slot steps lists after
  pub few : AreFewSteps table steps
  pub slots : after.slots ≡ lists.slots
  pub numbers : after.numbers ≡ lists.numbers
  pub reaped : after.reaped ≡ lists.reaped
  pub writes : WritesAt table (desk_with after (Putting call rows slot departed 0)) new
  pub grows : Grows steps [] (token old) (token new)
  pub marks : (view_of new).marks
      ≡ with_scan (view_of old).marks (view_of new).marks.polls ((view_of old).marks.loads ++ loads)

pub record LacksSlot (table : Table) (call : WriterCall) (old : MapSeat) (lists : SlotLists) (new : MapSeat)
    (after : SlotLists)
    (counts : NoSlot) : Type 0 where
  pub same : after ≡ lists
  pub writes : WritesAt table (desk_with lists Idle) new
  pub steps : ℕ
  pub loads : List LoggedLoad
  pub searched : SearchedAll table (view_of old).heard (view_of new).heard loads lists.retired steps
  pub grows : Grows steps [] (token old) (token new)
  pub lacks : Lacks (call_of call) counts (token new)
  pub noted : table.announcers ≡ 0 → Noted table.shape (view_of old).pasts (view_of new).marks.polls
  pub kept : KeptBack table.shape.readers (view_of old).seen (view_of new).seen loads lists.retired
      (view_of new).marks.polls
  pub marks : (view_of new).marks
      ≡ with_scan (view_of old).marks (view_of new).marks.polls ((view_of old).marks.loads ++ loads)

-- the set was published: the call's last step is its entry, and the slot that the key named before is retired
pub record PublishesSet (table : Table) (call : WriterCall) (rows : List Row) (old : MapSeat) (lists : SlotLists)
    (new : MapSeat) (after : SlotLists) : Type 0 where
  pub steps : ℕ
  pub slot : ℕ
  pub inside : slot < table.shape.slots
  pub mid : SlotLists
  -- what was heard when the search ended, and its polls and loads of readers' words
  pub scanned : List ℕ
  pub loads : List LoggedLoad
  pub took : TookBySearch table (view_of old).heard scanned loads slot steps lists mid
  pub heard : (view_of new).heard ≡ slice_set scanned slot 0
  -- the word that the key had
  pub word : ℕ
  pub log : List Entry
  pub seen : (view_of new).seen ≡ log ++ entry 0 (call_of call) reply.Done ∷ []
  pub swaps : SwapsAt table.shape (key_of call) word log (view_of old).marks
  -- the slot's new set is not reaped
  pub retires : after ≡ record mid { retired = mid.retired ++ unnamed word; reaped = slice_set lists.reaped slot false }
  pub few : AreFewSteps table steps
  pub slots : after.slots ≡ lists.slots
  pub numbers : after.numbers ≡ lists.numbers
  -- the set has the next put number
  pub number : ℕ
  pub count : put_count (view_of new).seen ≡ suc number
  pub put : slice_index (view_of new).marks.puts slot ≡ number
  pub marks : (view_of new).marks
      ≡ with_name (with_loads (view_of old).marks ((view_of old).marks.loads ++ loads)) (key_of call) slot number rows
  pub writes : WritesAt table (desk_with after Idle) new
  pub grows : Grows (2 * length rows + 2 + steps) (entry 0 (call_of call) reply.Done ∷ []) (token old) (token new)

-- the writer between two calls, with its slots
pub record RestsAt (table : Table) (lists : SlotLists) (seat : MapSeat) : Type 0 where
  pub writes : WritesAt table (desk_with lists Idle) seat
  pub slots : lists.slots ≡ table.shape.slots
  pub reaped : lists.reaped ≡ (view_of seat).marks.reaped
  pub own : KnowsOwn (token seat)
