-- The machine's state, where it opens, and the events that its callers attempt.
use Rattle.std.specs.Prelude.{ℕ, ◌-◌, List, [], replicate, slice_index, slice_index_or}
use Rattle.nr_core.specs.declared.shape.Shape.{Shape}
use Rattle.nr_core.specs.declared.calls.WriterCall.{WriterCall}
use Rattle.nr_core.specs.declared.calls.WriterCall.TheVariants.{Find, Fill, Update, Replace, Evict, Cancel}
use Rattle.nr_core.specs.declared.places.Hold.{Hold}
use Rattle.nr_core.specs.declared.places.Hold.TheVariants.{Nothing, On}
use Rattle.nr_core.specs.declared.places.Place.TheVariants.{Idle}
use Rattle.nr_core.specs.declared.places.Retired.{Retired}
use Rattle.nr_core.specs.declared.roles.Desk.{Desk}
use Rattle.nr_core.specs.declared.operation.Operation.{Operation}
use Rattle.nr_core.specs.Slots.{words_at_opening}

-- the words in their layout, what the readers 1, 2, .. hold, the writer's desk, and the operations that were made on
-- the words, oldest first
pub record State : Type 0 where
  pub shape : Shape
  pub words : List ℕ
  pub holds : List Hold
  pub desk : Desk
  pub made : List Operation

-- the writer is in no call, every slot is free, and each key has the first number
abbrev pub opening_desk : Shape → Desk
opening_desk shape = record { place = Idle; fresh = 0; retired = []; numbers = replicate shape.keys shape.first_number }

abbrev pub opening_state : Shape → State
opening_state shape =
    record {
      shape = shape;
      words = words_at_opening shape;
      holds = replicate shape.readers Nothing;
      desk = opening_desk shape;
      made = [];
    }

-- one attempt of one caller; readers are counted from 1
pub data Event : Type 0 where
  Arrive : (reader key : ℕ) → Event
  Read : (reader index : ℕ) → Event
  Depart : (reader : ℕ) → Event
  Ask : (reader key : ℕ) → Event
  FindAgain : (reader key : ℕ) → Event
  Start : (call : WriterCall) → Event
  Go : Event

-- the word at an index; what a reader holds, and the slot of a hold
abbrev pub word : State → ℕ → ℕ
word state place = slice_index state.words place

abbrev pub hold_of : State → ℕ → Hold
hold_of state reader = slice_index_or state.holds (reader - 1) Nothing

abbrev pub slot_in : Hold → ℕ
slot_in Nothing = 0
slot_in (On slot size) = slot

-- the retired slot at an index of the list
abbrev pub no_retired : Retired
no_retired = record { slot = 0; arrivals = 0 }

abbrev pub retired_at : Desk → ℕ → Retired
retired_at desk place = slice_index_or desk.retired place no_retired

-- the number of a key, by the writer's list
abbrev pub number_at : Desk → ℕ → ℕ
number_at desk key = slice_index desk.numbers key

-- the key of a call
abbrev pub key_of : WriterCall → ℕ
key_of (Find key) = key
key_of (Fill key number rows) = key
key_of (Update key batch) = key
key_of (Replace key rows) = key
key_of (Evict key) = key
key_of (Cancel key) = key
