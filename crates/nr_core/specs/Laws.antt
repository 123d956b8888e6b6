-- The laws over all lists of events.
use Rattle.std.specs.Prelude.{◌≡◌, ℕ, ◌+◌, ◌<◌, ◌≤◌, ◌≢◌, ◌⊎◌, ◌==◌, if◌then◌else◌, List, [], ◌∷◌, ◌++◌, length, map}
use Rattle.std.specs.Prelude.{slice_index, slice_index_or, Option, Some, None, Ok}
use Rattle.nr_model.specs.declared.rows.Row.{Row}
use Rattle.nr_model.specs.Rows.{IsRowSet}
use Rattle.nr_model.specs.Maps.{PartialMap, state_of, number_of, reply_to, filled_count}
use Rattle.nr_model.specs.Histories.{Entry, IsLegal, entries_of, sends, fills, cancels}
use Rattle.nr_model.specs.Laws.{pending}
use Rattle.nr_core.specs.declared.shape.Shape.{Shape}
use Rattle.nr_core.specs.declared.calls.NoSlot.{NoSlot}
use Rattle.nr_core.specs.declared.calls.WriterCall.{WriterCall}
use Rattle.nr_core.specs.declared.calls.WriterCall.TheVariants.{Evict, Cancel}
use Rattle.nr_core.specs.declared.calls.Step.TheVariants.{Ended}
use Rattle.nr_core.specs.declared.places.Hold.TheVariants.{On}
use Rattle.nr_core.specs.declared.places.Retired.{Retired}
use Rattle.nr_core.specs.declared.places.Place.{Place}
use Rattle.nr_core.specs.declared.places.Place.TheVariants.{Idle, Reading, Leaving, Withdrawing, Searching, Putting}
use Rattle.nr_words.specs.SetWords.{encode}
use Rattle.nr_core.specs.Slots.{bound_of, content, slot_room}
use Rattle.nr_core.specs.States.{State, Event, Arrive, Read, Depart, Ask, FindAgain, Start, Go, word, hold_of}
use Rattle.nr_core.specs.States.{number_at}
use Rattle.nr_core.specs.Refusals.{refusal}
use Rattle.nr_core.specs.Operations.{target_of, operation, operated}
use Rattle.nr_core.specs.declared.operation.Operation.{Operation}
use Rattle.nr_core.specs.declared.operation.Operation.TheVariants.{Load}
use Rattle.nr_core.specs.Machine.{next_state, run, unless, read_answer, start_answer, go_answer}
use Rattle.nr_core.specs.Story.{Story, Poll, story_of, tell, told, shown, entry, call_of, map_after, opening_map}
use Rattle.nr_core.specs.Sizes.{IsShape}
use Rattle.nr_core.specs.Given.{IsGivenCall}
use Rattle.nr_core.specs.Accounts.{Accounted}
use Rattle.nr_model.specs.declared.calls.Reply.TheVariants as reply
use Rattle.nr_model.specs.declared.calls.Call.TheVariants as model
use Rattle.nr_core.specs.declared.calls.WReply.TheVariants as writer

-- the sets that calls bring are row sets
abbrev pub IsGiven : ℕ → Event → Type 0
IsGiven bound (Start call) = IsGivenCall bound call
IsGiven bound other = Unit {0}

abbrev pub AllGiven : ℕ → List Event → Type 0
AllGiven bound [] = Unit {0}
AllGiven bound (event ∷ events) = IsGiven bound event × AllGiven bound events

-- the map after the history
abbrev pub map_of : Story → PartialMap
map_of story = map_after story.state.shape story.history

-- the words show the map
abbrev pub Shows : State → PartialMap → Type 0
Shows state map = (at : ℕ) → at < state.shape.keys → shown state at ≡ Some (state_of map at)

-- a reader that holds a slot found there, by the last of its calls, the set whose words its reads give
pub record HoldsFound (story : Story) (reader slot : ℕ) (size : Option ℕ) : Type 0 where
  pub at : ℕ
  pub rows : List Row
  pub before : List Entry
  pub found : entries_of story.history reader ≡ before ++ entry reader (model.Find at) (reply.Rows rows) ∷ []
  pub row_set : IsRowSet (bound_of story.state.shape) rows
  pub spelt : (index : ℕ) → index < length (encode rows)
      → word story.state (content story.state.shape slot index) ≡ slice_index (encode rows) index
  pub known : (size ≡ None) ⊎ (size ≡ Some (length rows))
  pub reads : (index : ℕ) → refusal story.state (Read reader index) ≡ None
      → read_answer story.state reader index ≡ Ok (slice_index (encode rows) index)

-- what stands between any two steps
pub record Stands (story : Story) : Type 0 where
  pub legal : IsLegal (opening_map story.state.shape) story.history
  pub shows : Shows story.state (map_of story)
  -- the writer lists each key's ticket number
  pub numbered : (at : ℕ) → at < story.state.shape.keys
      → number_at story.state.desk at ≡ number_of (state_of (map_of story) at)
  pub accounted : Accounted story.state
  pub held : (reader slot : ℕ) (size : Option ℕ) → 0 < reader → hold_of story.state reader ≡ On slot size
      → HoldsFound story reader slot size
  -- each request that was sent was filled or cancelled, once, but the one that is pending
  pub sent : (at : ℕ) → at < story.state.shape.keys
      → sends story.history at
      ≡ fills story.history at + cancels story.history at + pending (state_of (map_of story) at)

-- whose attempt an event is
abbrev pub caller_of_event : Event → ℕ
caller_of_event (Arrive reader at) = reader
caller_of_event (Read reader index) = reader
caller_of_event (Depart reader) = reader
caller_of_event (Ask reader at) = reader
caller_of_event (FindAgain reader at) = reader
caller_of_event other = 0

-- the writer's call of which an event is a step
abbrev pub call_in : Place → List WriterCall
call_in Idle = []
call_in (Reading call slot got) = call ∷ []
call_in (Leaving at) = Evict at ∷ []
call_in (Withdrawing at) = Cancel at ∷ []
call_in (Searching call rows poll) = call ∷ []
call_in (Putting call rows slot departed index) = call ∷ []

abbrev pub call_of_event : State → Event → List WriterCall
call_of_event state (Start call) = call ∷ []
call_of_event state Go = call_in state.desk.place
call_of_event state event = []

-- an event ends the writer's call with no slot
abbrev pub EndsWithout : State → Event → NoSlot → Type 0
EndsWithout state (Start call) counts = start_answer state call ≡ Ok (Ended (writer.NoSlot counts))
EndsWithout state Go counts = go_answer state ≡ Ok (Ended (writer.NoSlot counts))
EndsWithout state event counts = ⊥

abbrev pub no_poll : Poll
no_poll = record { slot = 0; holders = [] }

-- a call that ended with no slot could not have one: the call would be done, each slot is named by a filled key or
-- retired, and each retired one was polled in this call while some reader held it
pub record IsJustified (story : Story) (event : Event) (counts : NoSlot) : Type 0 where
  pub call : WriterCall
  pub is_call : call_of_event story.state event ≡ call ∷ []
  pub would_be_done : reply_to (map_of story) (call_of call) ≡ reply.Done
  pub live : counts.live ≡ filled_count (map_of story)
  pub all : counts.live + counts.held ≡ story.state.shape.slots
  pub held : counts.held ≡ length (tell story event).state.desk.retired
  pub polled : map (λ (poll : Poll). poll.slot) (tell story event).polls
      ≡ map (λ (entry : Retired). entry.slot) (tell story event).state.desk.retired
  pub were_held : (index : ℕ) → index < length (tell story event).polls
      → 0 < length (slice_index_or (tell story event).polls index no_poll).holders

-- that operation on one of the words is made, and no other
abbrev pub Operates : State → Operation → State → Type 0
Operates state one after =
    (target_of one < length state.words)
    × (after.words ≡ operated state.words one)
    × (after.made ≡ state.made ++ one ∷ [])

-- what one event more does
pub record Follows (story : Story) (event : Event) : Type 0 where
  -- one operation on one word
  pub one_operation : refusal story.state event ≡ None
      → Operates story.state (operation story.state event) (next_state story.state event)
  pub refused : refusal story.state event ≢ None → tell story event ≡ story
  -- an operation on a content word of a held slot is a load
  pub untouched : refusal story.state event ≡ None → (reader slot index : ℕ) (size : Option ℕ) → 0 < reader
      → hold_of story.state reader ≡ On slot size → index < slot_room story.state.shape
      → target_of (operation story.state event) ≡ content story.state.shape slot index
      → operation story.state event ≡ Load (content story.state.shape slot index)
  -- each caller's entries are those of its own events, in their order
  pub own : (caller : ℕ) → entries_of (tell story event).history caller
      ≡ entries_of story.history caller
      ++ (if caller_of_event event == caller then unless (refusal story.state event)
      [] (told story.state event) else [])
  pub justified : (counts : NoSlot) → EndsWithout story.state event counts → IsJustified story event counts

-- what stands after every list of events from the opening, and what follows of one event more
abbrev pub EverySchedule : Type 0
EverySchedule = (shape : Shape) (events : List Event) → IsShape shape → AllGiven (bound_of shape) events
    → Stands (story_of shape events)
    × ((event : Event) → IsGiven (bound_of shape) event → Follows (story_of shape events) event)

-- at most as many polls of a call as there are readers find their slots held; so a call that ends with no slot has no
-- more retired slots than readers, and none does in a map with a slot for each key, each reader and one more
abbrev pub SlotBound : Type 0
SlotBound = (shape : Shape) (events : List Event) → IsShape shape → AllGiven (bound_of shape) events
    → (length (story_of shape events).polls ≤ shape.readers)
    × ((event : Event) (counts : NoSlot) → IsGiven (bound_of shape) event → EndsWithout (run shape events) event counts
    → (counts.held ≤ shape.readers) × (shape.slots < shape.keys + shape.readers + 1))

-- a run goes on by one event and keeps its shape, and the story's states are the run's
abbrev pub RunGoesOn : Type 0
RunGoesOn =
    (shape : Shape) (events : List Event) (event : Event) →
    (run shape (events ++ event ∷ []) ≡ next_state (run shape events) event)
    × ((run shape events).shape ≡ shape)
    × ((story_of shape events).state ≡ run shape events)
