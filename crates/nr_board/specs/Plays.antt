-- What each kind of step tells its token.
use Rattle.std.specs.Prelude.{◌≡◌, ℕ, suc, ◌+◌, ◌-◌, ◌*◌, ◌<◌, ◌≤◌, ◌⊎◌, nat_le, Bool, List, [], ◌∷◌, ◌++◌, length}
use Rattle.std.specs.Prelude.{take, slice_index, true, false}
use mathlib.Core.Option.{some}
use lib.ListN.{get_elem?}
use Rattle.atomic_table.specs.Seated.{TableId}
use Rattle.atomic_table.specs.Table.{Me, Step}
use Rattle.nr_model.specs.declared.rows.Row.{Row}
use Rattle.nr_model.specs.declared.calls.Call.{Call}
use Rattle.nr_model.specs.declared.calls.Call.TheVariants as model
use Rattle.nr_model.specs.declared.calls.Reply.TheVariants as reply
use Rattle.nr_model.specs.Rows.{IsRowSet}
use Rattle.nr_model.specs.Histories.{Entry, entries_of}
use Rattle.nr_model.specs.Maps.{filled_count, last_number, reply_to, state_of}
use Rattle.nr_model.specs.declared.states.KeyState.TheVariants as states
use Rattle.nr_words.specs.KeyWords.{is_filled, slot_of}
use Rattle.nr_words.specs.SetWords.{encode}
use Rattle.nr_core.specs.declared.roles.Role.{Role}
use Rattle.nr_core.specs.declared.roles.Role.TheVariants.{Reader, Writer}
use Rattle.nr_core.specs.declared.roles.Desk.{Desk}
use Rattle.nr_core.specs.declared.calls.NoSlot.{NoSlot}
use Rattle.nr_core.specs.declared.calls.Step.{Step as CallStep}
use Rattle.nr_core.specs.declared.calls.Step.TheVariants.{Ended}
use Rattle.nr_core.specs.declared.calls.WReply.TheVariants as writer
use Rattle.nr_core.specs.declared.calls.WriterCall.{WriterCall}
use Rattle.nr_core.specs.declared.places.Place.{Place}
use Rattle.nr_core.specs.declared.places.Place.TheVariants.{Idle, Leaving, Putting, Reading, Searching, Withdrawing}
use Rattle.nr_core.specs.declared.places.Retired.{Retired}
use Rattle.nr_core.specs.declared.roles.Grip.TheVariants.{Nothing, On}
use Rattle.nr_core.specs.declared.shape.Shape.{Shape}
use Rattle.nr_core.specs.Slots.{bound_of, content, name_number, names_slot}
use Rattle.nr_core.specs.States.{key_of, number_at}
use Rattle.nr_core.specs.Core.{AreNumbers}
use Rattle.nr_core.specs.Steps.{ask_word}
use Rattle.nr_core.specs.Roles.{retirements}
use Rattle.nr_core.specs.Story.{call_of, ending, entry, map_after}
use Rattle.nr_core.specs.Writer.{desk_in, looked, moved_to, step_in, went}
use Rattle.nr_core.specs.Sums.{only, total}
use Rattle.nr_core.specs.MarkSteps.{ComparesPuts, GoesMarks, LooksMarks, found_again}
use Rattle.nr_core.specs.Marks.{Marks, Past, acted, with_look}
use Rattle.nr_core.specs.PollNotes.{AllHeld}
use Rattle.nr_core.specs.Puts.{put_number}
use Rattle.nr_board.specs.Announcing.{heard_at}
use Rattle.nr_board.specs.Entries.{acts_told, to_depart}
use Rattle.nr_board.specs.Kinds.{kind_of, kind_shown}
use Rattle.nr_board.specs.Views.{View, caller_number, grip_of, is_sized, rows_held, slot_held}
use Rattle.nr_board.specs.Callers.{Caller, Grows, Rests, caller_of, map_seen}

-- a reader that holds nothing
abbrev pub IsIdle : Role → Type 0
IsIdle role = role ≡ Reader (caller_number role) Nothing

-- the reader with its hold, and whether it has read the set's size
abbrev pub holding : Role → Bool → Role
holding role sized = Reader (caller_number role) (On (slot_held role) (rows_held role) sized)

-- a reader that holds a slot, with a row set
pub record Holds (shape : Shape) (role : Role) : Type 0 where
  pub is : role ≡ holding role (is_sized (grip_of role))
  pub inside : slot_held role < shape.slots
  pub row_set : IsRowSet (bound_of shape) (rows_held role)

-- one step that learns the history so far, and adds these entries to it
abbrev pub Advances : List Entry → View → View → Type 0
Advances entries old new = (table : TableId) → Grows 1 entries (caller_of table old) (caller_of table new)

-- one step that learns nothing
abbrev pub Waits : View → View → Type 0
Waits old new = (table : TableId) → Rests 1 (caller_of table old) (caller_of table new)

abbrev pub Then : Type 1
Then = Step (Unit {0}) → Me (Unit {0}) View → ℕ → Me (Unit {0}) View → Type 0

-- a request: the reader holds nothing before and after
pub record Asked (key found : ℕ) (old new : View) : Type 0 where
  pub role : new.role ≡ old.role
  pub gains : Advances (entry (caller_number old.role) (model.Ask key) (ask_word found) ∷ []) old new
  pub marks : new.marks ≡ old.marks
  pub says : new.says ≡ old.says

abbrev pub has_asked : Then
has_asked step (before, _) found (after, _) = Asked step.word found before after

-- an arrive: the reader holds the slot with the set that the key had, or the key was a hole
pub record Arrived (key found : ℕ) (old new : View) : Type 0 where
  pub number : caller_number new.role ≡ caller_number old.role
  pub held : is_filled found ≡ true
      → Holds old.shape new.role × (slot_held new.role ≡ slot_of found)
      × Advances (entry (caller_number old.role) (model.Find key) (reply.Rows (rows_held new.role)) ∷ []) old new
  pub hole : is_filled found ≡ false
      → (new.role ≡ old.role) × Advances (entry (caller_number old.role) (model.Find key) reply.Hole ∷ []) old new
  -- one act more; the set has the number of what was put last for the key
  pub marks : new.marks ≡ acted old.marks (put_number new.seen key)
  pub says : new.says ≡ old.says

abbrev pub has_arrived : Then
has_arrived step (before, _) found (after, _) = Arrived step.word found before after

-- a read of a word of the held slot gives the word of the set
pub record Read (place found : ℕ) (old new : View) : Type 0 where
  pub value : found ≡ slice_index (encode (rows_held old.role)) (place - content old.shape (slot_held old.role) 0)
  pub hold : new.role ≡ holding old.role (is_sized (grip_of new.role))
  pub waits : Waits old new
  pub marks : new.marks ≡ old.marks
  pub says : new.says ≡ old.says

abbrev pub has_read_word : Then
has_read_word step (before, _) found (after, _) = Read step.word found before after

-- a reader that holds a slot finds a key again: where the key's word names that slot, the find is an entry, and the key
-- has the set that the reader holds; else it learns the history so far
pub record FoundAgain (key found : ℕ) (old new : View) : Type 0 where
  pub role : new.role ≡ old.role
  pub same : names_slot (slot_held old.role) found ≡ true
      → Advances (entry (caller_number old.role) (model.Find key) (reply.Rows (rows_held old.role)) ∷ []) old new
  pub other : names_slot (slot_held old.role) found ≡ false → Advances [] old new
  pub inside : (slot : ℕ) → name_number found ≡ suc slot → slot < old.shape.slots
  pub marks : new.marks
      ≡ found_again (names_slot (slot_held old.role) found) (with_look old.marks key (name_number found))
  -- whether the key still has the put number of the hold
  pub put : ComparesPuts (names_slot (slot_held old.role) found) found old.marks.put (put_number new.seen key)
  pub kind : kind_shown found ≡ kind_of (state_of (map_after old.shape new.seen) key)
  pub says : new.says ≡ old.says

abbrev pub has_found_again : Then
has_found_again step (before, _) found (after, _) = FoundAgain step.word found before after

-- a departure ends the hold
pub record Departed (old new : View) : Type 0 where
  pub role : new.role ≡ Reader (caller_number old.role) Nothing
  pub waits : Waits old new
  pub marks : new.marks ≡ acted old.marks old.marks.put
  pub says : new.says ≡ old.says

abbrev pub has_departed : Then
has_departed step (before, _) found (after, _) = Departed before after

-- THE WRITER'S STEPS

-- what the writer's stage asks: its slots are slots of the map, there is room to retire one where the call will, and
-- the number of a hole fits its bits
abbrev pub RoomAt : Shape → Desk → Place → Type 0
RoomAt shape desk Idle = Unit {0}
RoomAt shape desk (Reading call slot got) = (slot < shape.slots) × (length got ≤ 2 * (bound_of shape))
RoomAt shape desk (Leaving key) =
    (key < shape.keys) × (length desk.retired < shape.slots) × (number_at desk key ≤ last_number)
RoomAt shape desk (Withdrawing key) = (key < shape.keys) × (number_at desk key < last_number)
RoomAt shape desk (Searching call rows poll) = poll < length desk.retired
RoomAt shape desk (Putting call rows slot departures index) =
    (slot < shape.slots) × IsRowSet (bound_of shape) rows × (length desk.retired < shape.slots)

pub record Room (shape : Shape) (desk : Desk) : Type 0 where
  pub place : RoomAt shape desk desk.place
  -- the retired slots are different slots of the map
  pub few : length desk.retired ≤ shape.slots
  pub inside : (at : ℕ) (entry : Retired) → get_elem? desk.retired at ≡ some entry → entry.slot < shape.slots
  pub apart : (one other : ℕ) (a b : Retired) → get_elem? desk.retired one ≡ some a
      → get_elem? desk.retired other ≡ some b → a.slot ≡ b.slot → one ≡ other

-- the call could not have a slot: it would be done after the history so far, and each slot is a filled key's or one of
-- those that are retired
pub record Lacks (call : Call) (counts : NoSlot) (caller : Caller) : Type 0 where
  pub would_be_done : reply_to (map_seen caller) call ≡ reply.Done
  pub live : counts.live ≡ filled_count (map_seen caller)
  pub held : counts.held ≡ length caller.retired
  pub all : counts.live + counts.held ≡ caller.table.shape.slots
  -- every slot was taken once
  pub full : caller.table.shape.slots ≤ caller.fresh
  -- each retired slot is another one, and another reader kept it back; where no reader has a word, it was polled, and
  -- held then by that reader
  pub apart : (slot : ℕ) → retirements slot caller.retired ≤ 1
  pub many : length caller.marks.polls ≡ length caller.retired
  pub others : (reader : ℕ) → total (λ (note : Past). only reader note.reader) caller.marks.polls ≤ 1
  pub few : length caller.marks.polls ≤ caller.table.shape.readers
  pub polled : caller.table.announcers ≡ 0 → AllHeld caller.retired caller.marks.polls

-- a step of the writer's call leads to the desk of the outcome, and adds its entry where it ends the call with a reply
pub record Leads (call : Call) (outcome : Desk × CallStep) (old new : View) : Type 0 where
  pub role : new.role ≡ Writer (desk_in outcome)
  pub advances : Advances (ending call (step_in outcome)) old new
  pub room : Room old.shape (desk_in outcome)
  pub numbers : AreNumbers old.shape (map_after old.shape new.seen) (desk_in outcome).numbers
  pub short : (counts : NoSlot) → step_in outcome ≡ Ended (writer.NoSlot counts) → (id : TableId)
      → Lacks call counts (caller_of id new)

-- a look, which begins the call and its polls
pub record Looked (desk : Desk) (call : WriterCall) (found : ℕ) (old new : View) : Type 0 where
  pub leads : Leads (call_of call) (looked old.shape desk call found) old new
  pub marks : LooksMarks old.shape old.marks desk call found new.role new.seen new.marks []
  pub heard : new.heard ≡ heard_at desk.place old.heard

-- the call that is at a stage
abbrev pub call_at : Place → Call
call_at Idle = model.Evict 0
call_at (Reading call slot got) = call_of call
call_at (Leaving key) = model.Evict key
call_at (Withdrawing key) = model.Cancel key
call_at (Searching call rows poll) = call_of call
call_at (Putting call rows slot departures index) = call_of call

-- a swap finds the word that shows the key's state, and the writer's lists have the slot that it names
pub record SwapsAt (shape : Shape) (at found : ℕ) (log : List Entry) (marks : Marks) : Type 0 where
  pub state : kind_shown found ≡ kind_of (state_of (map_after shape log) at)
  pub name : slice_index marks.names at ≡ name_number found

-- of the word that a put finds nothing is told
abbrev pub SwapsOrPuts : Bool → Shape → ℕ → ℕ → List Entry → Marks → Type 0
SwapsOrPuts true shape at found log marks = Unit {0}
SwapsOrPuts false shape at found log marks = SwapsAt shape at found log marks

-- with the word found, the words read begin those of the rows
abbrev pub ReadsMore : List ℕ → ℕ → List Row → Type 0
ReadsMore got found rows = got ++ found ∷ [] ≡ take (length got + 1) (encode rows)

-- after that history the key is filled with the rows, under that number
abbrev pub IsFilled : Shape → List Entry → ℕ → ℕ → List Row → Type 0
IsFilled shape log key number rows = state_of (map_after shape log) key ≡ states.Rows number rows

-- what a later step finds after that history: a read goes on with the words of the key's set
abbrev pub Finds : Shape → Place → ℕ → List Entry → Marks → Type 0
Finds shape (Reading call slot got) found log marks =
    (rows : List Row) × IsRowSet (bound_of shape) rows × ReadsMore got found rows × (length got ≤ 2 * length rows)
    × (number : ℕ) × IsFilled shape log (key_of call) number rows
Finds shape (Leaving key) found log marks = SwapsAt shape key found log marks
Finds shape (Withdrawing key) found log marks = SwapsAt shape key found log marks
Finds shape (Putting call rows slot departures index) found log marks =
    SwapsOrPuts (nat_le index (2 * length rows)) shape (key_of call) found log marks
Finds shape other found log marks = Unit {0}

-- each new note among the polls tells a reader as the history so far has it: it arrived at its finds, and departed from
-- what it found but for what it holds
abbrev pub NotesTell : List Entry → List Past → List Past → Type 0
NotesTell log polls now =
    (at : ℕ) (note : Past) → get_elem? now at ≡ some note
    → (get_elem? polls at ≡ some note) ⊎ (note.count + to_depart note.slot ≡ acts_told (entries_of log note.reader))

-- a later step of the call, and the history before the entry that it may add
pub record Went (desk : Desk) (found : ℕ) (old new : View) : Type 0 where
  pub leads : Leads (call_at desk.place) (went old.shape desk desk.place found) old new
  pub log : List Entry
  pub seen : new.seen ≡ log ++ ending (call_at desk.place) (step_in (went old.shape desk desk.place found))
  pub finds : Finds old.shape desk.place found log old.marks
  pub notes : NotesTell log old.marks.polls new.marks.polls
  pub marks : GoesMarks old.shape old.marks old.pasts desk found new.role new.seen new.marks []
  pub heard : new.heard ≡ heard_at desk.place old.heard

abbrev pub has_looked : WriterCall → Then
has_looked call step (before, _) found (after, _) =
    (desk : Desk) → before.role ≡ Writer desk → Looked desk call found before after

abbrev pub has_gone : Then
has_gone step (before, _) found (after, _) = (desk : Desk) → before.role ≡ Writer desk → Went desk found before after

-- the desk after a put
abbrev pub put_place : Place → Place
put_place (Putting call rows slot departures index) = Putting call rows slot departures (index + 1)
put_place other = other

abbrev pub next_put : Desk → Desk
next_put desk = moved_to desk (put_place desk.place)

-- a put finds a word that tells nothing
pub record Put (desk : Desk) (old new : View) : Type 0 where
  pub role : new.role ≡ Writer (next_put desk)
  pub advances : Advances [] old new
  pub room : Room old.shape (next_put desk)
  pub numbers : AreNumbers old.shape (map_after old.shape new.seen) desk.numbers
  pub marks : new.marks ≡ old.marks
  pub heard : new.heard ≡ heard_at desk.place old.heard

abbrev pub has_put : Then
has_put step (before, _) found (after, _) = (desk : Desk) → before.role ≡ Writer desk → Put desk before after
