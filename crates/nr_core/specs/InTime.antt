-- Order in time: of two calls, of which one ends before the other begins, the first one's entry comes first. For what
-- comes later adds its entries behind; an event tells no entry but one of the call of which it is a step; and the
-- writer, of whose calls alone the entry is not told at the first step, tells it at the last one, and none since the
-- first.
use Rattle.std.specs.Prelude.{◌≡◌, ℕ, ◌⊎◌, List, [], ◌∷◌, ◌++◌, map, None}
use Rattle.nr_model.specs.declared.calls.Call.{Call}
use Rattle.nr_model.specs.declared.calls.Reply.{Reply}
use Rattle.nr_model.specs.Histories.{Entry, entries_of}
use Rattle.nr_core.specs.declared.shape.Shape.{Shape}
use Rattle.nr_core.specs.declared.calls.WriterCall.{WriterCall}
use Rattle.nr_core.specs.States.{State, Event, Arrive, Ask, FindAgain, Start, Go}
use Rattle.nr_core.specs.Refusals.{refusal}
use Rattle.nr_core.specs.Machine.{unless}
use Rattle.nr_core.specs.Story.{Story, story_of, tell, told, entry, call_of}
use Rattle.nr_core.specs.Laws.{call_in, caller_of_event}
use Rattle.nr_model.specs.declared.calls.Call.TheVariants as model

-- the entry that an event adds, if it adds one; and those that events add, one after the other, from a story on
abbrev pub told_by : Story → Event → List Entry
told_by story event = unless (refusal story.state event) [] (told story.state event)

abbrev pub told_since : Story → List Event → List Entry
told_since story [] = []
told_since story (event ∷ events) = told_by story event ++ told_since (tell story event) events

-- the writer's call that is under way, if one is
abbrev pub under_way : Story → List WriterCall
under_way story = call_in story.state.desk.place

-- the call that an event may tell: a reader's find at its first step, and the writer's call at whichever step
abbrev pub call_told : State → Event → List Call
call_told state (Arrive reader at) = model.Find at ∷ []
call_told state (Ask reader at) = model.Ask at ∷ []
call_told state (FindAgain reader at) = model.Find at ∷ []
call_told state (Start call) = call_of call ∷ []
call_told state Go = map call_of (call_in state.desk.place)
call_told state other = []

-- one entry, of that caller and call
pub record TellsOne (caller : ℕ) (calls : List Call) (entries : List Entry) : Type 0 where
  pub call : Call
  pub reply : Reply
  pub own : calls ≡ call ∷ []
  pub one : entries ≡ entry caller call reply ∷ []

-- an event tells nothing, or one entry, of its own caller and call
abbrev pub TellsOwn : State → Event → Type 0
TellsOwn state event =
    (told state event ≡ []) ⊎ TellsOne (caller_of_event event) (call_told state event) (told state event)

-- the writer's call began among these events, and the writer told no entry since
pub record BeganAmong (shape : Shape) (events : List Event) (call : WriterCall) : Type 0 where
  pub before : List Event
  pub since : List Event
  pub split : events ≡ before ++ Start call ∷ since
  pub taken : refusal (story_of shape before).state (Start call) ≡ None
  pub none : entries_of (told_since (story_of shape before) (Start call ∷ since)) 0 ≡ []

pub record InTime (shape : Shape) (earlier later : List Event) : Type 0 where
  pub behind : (story_of shape (earlier ++ later)).history
      ≡ (story_of shape earlier).history ++ told_since (story_of shape earlier) later
  pub own : (event : Event) → TellsOwn (story_of shape earlier).state event
  pub began : (call : WriterCall) → under_way (story_of shape earlier) ≡ call ∷ [] → BeganAmong shape earlier call
  -- where the writer tells an entry, its call has ended
  pub ends : (event : Event)
      → (entries_of (told_by (story_of shape earlier) event) 0 ≡ [])
      ⊎ (under_way (tell (story_of shape earlier) event) ≡ [])

-- whatever the callers attempt, in any order, and wherever one parts it
abbrev pub EntriesInTime : Type 0
EntriesInTime = (shape : Shape) (earlier later : List Event) → InTime shape earlier later
