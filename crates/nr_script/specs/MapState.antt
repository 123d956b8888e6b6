-- A map, what its readers have pinned, and what each call makes of them.
use Rattle.std.specs.Prelude.{ℕ, ◌+◌, ◌==◌, ◌&&◌, if◌then◌else◌, Bool, List, Option, None, Some, option_map, Result, Ok}
use Rattle.std.specs.Prelude.{Err, slice_index, slice_index_or, slice_set, replicate}
use Rattle.std.specs.List.{filter_map}
use Rattle.nr_model.specs.declared.rows.Row.{Row}
use Rattle.nr_model.specs.declared.states.KeyState.{KeyState}
use Rattle.nr_model.specs.declared.states.KeyState.TheVariants as states
use Rattle.nr_model.specs.declared.calls.Call.{Call}
use Rattle.nr_model.specs.declared.calls.Reply.{Reply}
use Rattle.nr_model.specs.declared.calls.Reply.TheVariants as reply
use Rattle.nr_model.specs.Maps.{PartialMap, opening, call_key, reply_to, next, state_of, filled_count}
use Rattle.nr_model.specs.Histories.{is_done}
use Rattle.nr_model.specs.Strays.{keyed, strays}
use Rattle.nr_core.specs.declared.shape.Shape.{Shape}
use Rattle.nr_script.specs.Answers.{Answer}
use Rattle.nr_script.specs.Answers as answers
use Rattle.nr_script.specs.declared.alone.answer.PinRefusal.{PinRefusal}
use Rattle.nr_script.specs.declared.alone.answer.PinRefusal.TheVariants as refusals

-- a set that a reader pinned: its key, and the number that it had when it was put
pub record Pin : Type 0 where
  pub key : ℕ
  pub rows : List Row
  pub put : ℕ

pub record MapState : Type 0 where
  pub map : PartialMap
  pub slots : ℕ
  -- the count at which each slot began, which no answer tells
  pub first_count : ℕ
  -- the put number of the set of each key that is filled
  pub puts : List ℕ
  -- how many sets were put: the next put number
  pub put_count : ℕ
  -- what each reader has pinned
  pub pins : List (Option Pin)

-- the put numbers that readers pin
abbrev pub put_of : Option Pin → Option ℕ
put_of pin = option_map (λ (p : Pin). p.put) pin

abbrev pub pinned_puts : List (Option Pin) → List ℕ
pinned_puts pins = filter_map put_of pins

-- each slot holds the set of a key, or a stray
abbrev pub is_full : MapState → Bool
is_full state =
    filled_count state.map + strays (keyed state.map.states state.puts) (pinned_puts state.pins) == state.slots

-- what a call is answered, or why it is refused, and the state after it
abbrev pub MapOutcome : Type 0
MapOutcome = Result Answer PinRefusal × MapState

-- a call that is done puts a set
abbrev pub puts_after : Reply → ℕ → MapState → List ℕ
puts_after reply.Done key state = slice_set state.puts key state.put_count
puts_after other key state = state.puts

abbrev pub put_count_after : Reply → MapState → ℕ
put_count_after reply.Done state = state.put_count + 1
put_count_after other state = state.put_count

abbrev pub after_call : MapState → Call → MapState
after_call state call =
    record state {
      map = next state.map call;
      puts = puts_after (reply_to state.map call) (call_key call) state;
      put_count = put_count_after (reply_to state.map call) state;
    }

-- the map's reply to a call, unless the call would be done and no slot is left for it
abbrev pub answer_call : MapState → Call → MapOutcome
answer_call state call =
    if is_done (reply_to state.map call)
    && is_full state then (Ok answers.NoSlot, state) else
    (Ok (answers.Reply (reply_to state.map call)), after_call state call)

-- the readers stand by their numbers, from index 0
abbrev pub pin_at : MapState → ℕ → Option Pin
pin_at state at = slice_index_or state.pins at None

-- what a reader does that must hold no pin, and what it does with its pin
abbrev pub without_pin : Option Pin → MapState → MapOutcome → MapOutcome
without_pin None state outcome = outcome
without_pin (Some pin) state outcome = (Err refusals.Holding, state)

abbrev pub with_pin : Option Pin → MapState → (Pin → MapOutcome) → MapOutcome
with_pin None state outcome = (Err refusals.NotHolding, state)
with_pin (Some pin) state outcome = outcome pin

abbrev pub pins_after : MapState → ℕ → Option Pin → MapState
pins_after state at pin = record state { pins = slice_set state.pins at pin }

-- a reader pins the set of a key, if the key has one
abbrev pub answer_pin : MapState → ℕ → ℕ → KeyState → MapOutcome
answer_pin state at key (states.Hole n) = (Ok (answers.Reply reply.Hole), state)
answer_pin state at key (states.Asked n) = (Ok (answers.Reply reply.Hole), state)
answer_pin state at key (states.Rows n rows) =
    (Ok answers.Ok, pins_after state at (Some (record { key = key; rows = rows; put = slice_index state.puts key })))

-- each call of a reader, and each of the writer
abbrev pub answer_of_reader : MapState → ℕ → Call → MapOutcome
answer_of_reader state at call = without_pin (pin_at state at) state (answer_call state call)

abbrev pub answer_pinning : MapState → ℕ → ℕ → KeyState → MapOutcome
answer_pinning state at key found = without_pin (pin_at state at) state (answer_pin state at key found)

-- the rows of a reader's pin
abbrev pub answer_show : MapState → ℕ → MapOutcome
answer_show state at = with_pin (pin_at state at) state (λ pin. (Ok (answers.Reply (reply.Rows pin.rows)), state))

-- a reader finds a key again by its pin: where the key's set is the one that it pinned, by their put numbers, that is a
-- find of the key
abbrev pub find_again : KeyState → ℕ → Pin → Answer
find_again (states.Hole n) put pin = answers.Other
find_again (states.Asked n) put pin = answers.Other
find_again (states.Rows n rows) put pin = if put == pin.put then answers.Reply (reply.Rows rows) else answers.Other

abbrev pub answer_again : MapState → ℕ → ℕ → MapOutcome
answer_again state at key =
    with_pin (pin_at state at) state
    (λ pin. (Ok (find_again (state_of state.map key) (slice_index state.puts key) pin), state))

-- a reader lets its pin go
abbrev pub answer_unpin : MapState → ℕ → MapOutcome
answer_unpin state at = with_pin (pin_at state at) state (λ pin. (Ok answers.Ok, pins_after state at None))

-- a map of holes
abbrev pub opened_map : Shape → MapState
opened_map shape =
    record {
      map = opening shape.keys shape.rows shape.first_number;
      slots = shape.slots;
      first_count = shape.first_count;
      puts = replicate shape.keys 0;
      put_count = 0;
      pins = replicate shape.readers None;
    }
