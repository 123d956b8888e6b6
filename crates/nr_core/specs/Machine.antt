-- The machine: the state after an event, the answer to it, and the run of a list of events.
use Rattle.std.specs.Prelude.{ℕ, Bool, false, ◌-◌, ◌==◌, if◌then◌else◌, List, [], ◌∷◌, ◌++◌, slice_set, fold, Option}
use Rattle.std.specs.Prelude.{Some, None, Result, Ok, Err}
use Rattle.nr_core.specs.declared.shape.Shape.{Shape}
use Rattle.nr_core.specs.declared.calls.WriterCall.{WriterCall}
use Rattle.nr_core.specs.declared.calls.Refusal.{Refusal}
use Rattle.nr_core.specs.declared.calls.Arrived.{Arrived}
use Rattle.nr_core.specs.declared.calls.AskReply.{AskReply}
use Rattle.nr_core.specs.declared.calls.AskReply.TheVariants.{Send, Waiting, Filled}
use Rattle.nr_core.specs.declared.calls.Step.{Step}
use Rattle.nr_core.specs.declared.places.Hold.{Hold}
use Rattle.nr_core.specs.declared.places.Hold.TheVariants.{Nothing, On}
use Rattle.nr_core.specs.declared.roles.Desk.{Desk}
use Rattle.nr_words.specs.KeyWords.{is_filled, has_ask, slot_of}
use Rattle.nr_core.specs.States.{State, Event, Arrive, Read, Depart, Ask, FindAgain, Start, Go, opening_state, word}
use Rattle.nr_core.specs.States.{hold_of}
use Rattle.nr_core.specs.Slots.{names_slot}
use Rattle.nr_core.specs.Refusals.{refusal}
use Rattle.nr_core.specs.Operations.{target_of, operation, operated}
use Rattle.nr_core.specs.Writer.{desk_in, looked, step_in, went}
use Rattle.nr_core.specs.declared.calls.Arrived.TheVariants as arrived

-- what a reader holds after an arrive that found this word
abbrev pub arrive_hold : ℕ → Hold
arrive_hold found = (if is_filled found then On (slot_of found) None else Nothing)

-- what it holds after a read: word 0 tells the number of rows
abbrev pub read_hold : ℕ → ℕ → Hold → Hold
read_hold index found Nothing = Nothing
read_hold index found (On slot size) = On slot (if index == 0 then Some found else size)

abbrev pub with_hold : State → ℕ → Hold → List Hold
with_hold state reader hold = slice_set state.holds (reader - 1) hold

abbrev pub holds_after : State → Event → ℕ → List Hold
holds_after state (Arrive reader key) found = with_hold state reader (arrive_hold found)
holds_after state (Read reader index) found = with_hold state reader (read_hold index found (hold_of state reader))
holds_after state (Depart reader) found = with_hold state reader Nothing
holds_after state other found = state.holds

abbrev pub desk_after : State → Event → ℕ → Desk
desk_after state (Start call) found = desk_in (looked state.shape state.desk call found)
desk_after state Go found = desk_in (went state.shape state.desk state.desk.place found)
desk_after state other found = state.desk

-- the word that an event's operation finds
abbrev pub found_by : State → Event → ℕ
found_by state event = word state (target_of (operation state event))

-- the state after an event that is not refused: one operation more was made, on one word
abbrev pub moved : State → Event → State
moved state event = record {
  shape = state.shape;
  words = operated state.words (operation state event);
  holds = holds_after state event (found_by state event);
  desk = desk_after state event (found_by state event);
  made = state.made ++ operation state event ∷ [];
}

abbrev pub unless : {A : Type 0} → Option Refusal → A → A → A
unless None stays moves = moves
unless (Some why) stays moves = stays

-- the state after an event; a refused one changes nothing
abbrev pub next_state : State → Event → State
next_state state event = unless (refusal state event) state (moved state event)

-- the state after a list of events from the opening
abbrev pub run : Shape → List Event → State
run shape events = fold next_state (opening_state shape) events

-- an answer, or the refusal
abbrev pub or_refusal : {A : Type 0} → Option Refusal → A → Result A Refusal
or_refusal None given = Ok given
or_refusal (Some why) given = Err why

abbrev pub arrived_at : ℕ → Arrived
arrived_at found = (if is_filled found then arrived.Held else arrived.Hole)

abbrev pub asked_at : ℕ → AskReply
asked_at found = (if is_filled found then Filled else (if has_ask found then Waiting else Send (slot_of found)))

abbrev pub arrive_answer : State → ℕ → ℕ → Result Arrived Refusal
arrive_answer state reader key =
    or_refusal (refusal state (Arrive reader key)) (arrived_at (found_by state (Arrive reader key)))

abbrev pub read_answer : State → ℕ → ℕ → Result ℕ Refusal
read_answer state reader index = or_refusal (refusal state (Read reader index)) (found_by state (Read reader index))

abbrev pub depart_answer : State → ℕ → Result (Unit {0}) Refusal
depart_answer state reader = or_refusal (refusal state (Depart reader)) tt

abbrev pub ask_answer : State → ℕ → ℕ → Result AskReply Refusal
ask_answer state reader key = or_refusal (refusal state (Ask reader key)) (asked_at (found_by state (Ask reader key)))

-- whether the word names the slot of the hold
abbrev pub names_held : Hold → ℕ → Bool
names_held Nothing found = false
names_held (On slot size) found = names_slot slot found

-- whether the key has the set that the reader holds, or the refusal
abbrev pub find_again_answer : State → ℕ → ℕ → Result Bool Refusal
find_again_answer state reader key =
    or_refusal (refusal state (FindAgain reader key))
    (names_held (hold_of state reader) (found_by state (FindAgain reader key)))

-- what the first step of a call of the writer comes to, or the refusal
abbrev pub start_answer : State → WriterCall → Result Step Refusal
start_answer state call =
    or_refusal (refusal state (Start call)) (step_in (looked state.shape state.desk call (found_by state (Start call))))

-- what the next step of the call comes to, or the refusal
abbrev pub go_answer : State → Result Step Refusal
go_answer state =
    or_refusal (refusal state Go) (step_in (went state.shape state.desk state.desk.place (found_by state Go)))
