-- What a list of events tells: the history of its calls, and the polls of the writer's call in flight.
use Rattle.std.specs.Prelude.{ℕ, ◌+◌, ◌==◌, Bool, false, if◌then◌else◌, List, [], ◌∷◌, ◌++◌, fold, Option, Some, None}
use Rattle.std.specs.Prelude.{option_map}
use Rattle.nr_model.specs.declared.calls.Call.{Call}
use Rattle.nr_model.specs.declared.calls.Reply.{Reply}
use Rattle.nr_model.specs.declared.states.KeyState.{KeyState}
use Rattle.nr_model.specs.Maps.{PartialMap, find_reply, ask_reply, opening}
use Rattle.nr_model.specs.Histories.{Entry, after}
use Rattle.nr_core.specs.declared.shape.Shape.{Shape}
use Rattle.nr_core.specs.declared.calls.WriterCall.{WriterCall}
use Rattle.nr_core.specs.declared.calls.WriterCall.TheVariants.{Find, Fill, Update, Replace, Evict, Cancel}
use Rattle.nr_core.specs.declared.calls.Step.{Step}
use Rattle.nr_core.specs.declared.calls.Step.TheVariants.{Ended}
use Rattle.nr_core.specs.declared.places.Hold.{Hold}
use Rattle.nr_core.specs.declared.places.Hold.TheVariants.{Nothing, On}
use Rattle.nr_core.specs.declared.places.Place.{Place}
use Rattle.nr_core.specs.declared.places.Place.TheVariants.{Idle, Reading, Leaving, Withdrawing, Searching, Putting}
use Rattle.nr_words.specs.KeyWords.{is_filled, has_ask, slot_of, same_count}
use Rattle.nr_core.specs.Slots.{bound_of, slot_content}
use Rattle.nr_core.specs.States.{Arrive, Ask, Event, FindAgain, Go, Start, State, hold_of, number_at, opening_state}
use Rattle.nr_core.specs.States.{retired_at, word}
use Rattle.nr_words.specs.SetWords.{decode}
use Rattle.nr_core.specs.Refusals.{refusal}
use Rattle.nr_core.specs.Writer.{looked, step_in, went}
use Rattle.nr_core.specs.Machine.{found_by, names_held, unless, next_state}
use Rattle.nr_model.specs.declared.calls.Call.TheVariants as model
use Rattle.nr_model.specs.declared.states.KeyState.TheVariants as key
use Rattle.nr_core.specs.declared.calls.WReply.TheVariants as writer

-- the map at opening, and the map that a history leaves
abbrev pub opening_map : Shape → PartialMap
opening_map shape = opening shape.keys (bound_of shape) shape.first_number

abbrev pub map_after : Shape → List Entry → PartialMap
map_after shape history = after (opening_map shape) history

-- the key's state that its word shows, with the slot that it names; none where the slot's content words spell no set. A
-- filled key's ticket number stands in the writer's list alone
abbrev pub shown : State → ℕ → Option KeyState
shown state at =
    (if is_filled (word state at)
    then option_map (λ rows. key.Rows (number_at state.desk at) rows)
    (decode (slot_content state.shape state.words (slot_of (word state at))))
    else Some
    (if has_ask (word state at) then key.Asked (slot_of (word state at)) else key.Hole (slot_of (word state at))))

-- a call of the writer as the model's call
abbrev pub call_of : WriterCall → Call
call_of (Find at) = model.Find at
call_of (Fill at number rows) = model.Fill at number rows
call_of (Update at batch) = model.Update at batch
call_of (Replace at rows) = model.Replace at rows
call_of (Evict at) = model.Evict at
call_of (Cancel at) = model.Cancel at

abbrev pub entry : ℕ → Call → Reply → Entry
entry caller call reply = record { caller = caller; call = call; reply = reply }

-- the entry of a call that is answered by the state that its key shows; a key that shows none answers nothing
abbrev pub answering : ℕ → Call → (KeyState → Reply) → Option KeyState → List Entry
answering caller call reply None = []
answering caller call reply (Some state) = entry caller call (reply state) ∷ []

-- a call of the writer takes effect where it ends with a reply; no slot is none
abbrev pub ending : Call → Step → List Entry
ending call (Ended (writer.Reply reply)) = entry 0 call reply ∷ []
ending call other = []

-- the same, of the call that is at a stage
abbrev pub ending_at : Place → Step → List Entry
ending_at Idle step = []
ending_at (Reading call slot got) step = ending (call_of call) step
ending_at (Leaving at) step = ending (model.Evict at) step
ending_at (Withdrawing at) step = ending (model.Cancel at) step
ending_at (Searching call rows poll) step = ending (call_of call) step
ending_at (Putting call rows slot departed index) step = ending (call_of call) step

-- the calls that take effect in an event that is not refused: a find at its arrive or where it finds again, a request
-- at its ask
abbrev pub told : State → Event → List Entry
told state (Arrive reader at) = answering reader (model.Find at) find_reply (shown state at)
told state (Ask reader at) = answering reader (model.Ask at) ask_reply (shown state at)
told state (FindAgain reader at) =
    (if names_held (hold_of state reader) (found_by state (FindAgain reader at)) then answering reader (model.Find at)
    find_reply (shown state at) else
    [])
told state (Start call) =
    ending (call_of call) (step_in (looked state.shape state.desk call (found_by state (Start call))))
told state Go = ending_at state.desk.place (step_in (went state.shape state.desk state.desk.place (found_by state Go)))
told state other = []

-- a poll that found its slot held, and the readers that held it then
pub record Poll : Type 0 where
  pub slot : ℕ
  pub holders : List ℕ

abbrev pub is_on : ℕ → Hold → Bool
is_on slot Nothing = false
is_on slot (On held size) = held == slot

-- the numbers, from one on, of the readers that hold the slot
abbrev pub holders_from : ℕ → ℕ → List Hold → List ℕ
holders_from reader slot [] = []
holders_from reader slot (hold ∷ holds) =
    (if is_on slot hold then reader ∷ holders_from (reader + 1) slot holds else holders_from (reader + 1) slot holds)

abbrev pub holders : State → ℕ → List ℕ
holders state slot = holders_from 1 slot state.holds

abbrev pub poll_at : State → ℕ → Poll
poll_at state poll =
    record { slot = (retired_at state.desk poll).slot; holders = holders state (retired_at state.desk poll).slot }

-- the polls of a call that is at a stage, after its next step
abbrev pub polls_at : State → List Poll → Place → List Poll
polls_at state polls (Searching call rows poll) =
    (if same_count (found_by state Go) (retired_at state.desk poll).arrivals then polls else polls ++ poll_at state poll
    ∷ [])
polls_at state polls other = polls

-- the polls of the writer's call that found their slots held, after an event; a look begins anew
abbrev pub polls_after : State → List Poll → Event → List Poll
polls_after state polls (Start call) = []
polls_after state polls Go = polls_at state polls state.desk.place
polls_after state polls other = polls

-- a state, the history that led to it, and the polls of the call in flight
pub record Story : Type 0 where
  pub state : State
  pub history : List Entry
  pub polls : List Poll

-- the story with one event more
abbrev pub tell : Story → Event → Story
tell story event = record {
  state = next_state story.state event;
  history = story.history ++ unless (refusal story.state event) [] (told story.state event);
  polls = unless (refusal story.state event) story.polls (polls_after story.state story.polls event);
}

abbrev pub beginning : Shape → Story
beginning shape = record { state = opening_state shape; history = []; polls = [] }

abbrev pub story_of : Shape → List Event → Story
story_of shape events = fold tell (beginning shape) events
