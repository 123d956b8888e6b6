-- The room that the next step of a state has.
use Rattle.std.specs.Prelude.{◌≡◌, ℕ, ◌*◌, ◌<◌, ◌≤◌, length, Some, None}
use Rattle.nr_model.specs.Maps.{last_number}
use Rattle.nr_core.specs.declared.shape.Shape.{Shape}
use Rattle.nr_core.specs.declared.places.Hold.{Hold}
use Rattle.nr_core.specs.declared.places.Hold.TheVariants.{Nothing, On}
use Rattle.nr_core.specs.declared.places.Place.{Place}
use Rattle.nr_core.specs.declared.places.Place.TheVariants.{Idle, Reading, Leaving, Withdrawing, Searching, Putting}
use Rattle.nr_words.specs.Places.{total_of}
use Rattle.nr_core.specs.Slots.{bound_of, layout, slot_room}
use Rattle.nr_core.specs.States.{State, key_of, hold_of, retired_at, number_at}
use Rattle.nr_core.specs.Sizes.{IsShape}

-- the words that a hold lets its reader read are a slot's
abbrev pub RoomOf : Shape → Hold → Type 0
RoomOf shape Nothing = Unit {0}
RoomOf shape (On slot None) = slot < shape.slots
RoomOf shape (On slot (Some size)) = (slot < shape.slots) × (2 * size < slot_room shape)

-- what the writer's next step needs at its stage
abbrev pub RoomForStep : State → Place → Type 0
RoomForStep state Idle = Unit {0}
RoomForStep state (Reading call slot got) = (slot < state.shape.slots) × (length got < slot_room state.shape)
RoomForStep state (Leaving at) = (at < state.shape.keys) × (length state.desk.retired < state.shape.slots)
RoomForStep state (Withdrawing at) = (at < state.shape.keys) × (number_at state.desk at < last_number)
RoomForStep state (Searching call rows poll) =
    (poll < length state.desk.retired) × ((retired_at state.desk poll).slot < state.shape.slots)
RoomForStep state (Putting call rows slot departed index) =
    (key_of call < state.shape.keys) × (length state.desk.retired < state.shape.slots) × (slot < state.shape.slots)
    × (length rows ≤ bound_of state.shape)

pub record HasRoom (state : State) : Type 0 where
  pub shape : IsShape state.shape
  pub words : length state.words ≡ total_of (layout state.shape)
  pub holds : length state.holds ≡ state.shape.readers
  pub held : (reader : ℕ) → 0 < reader → RoomOf state.shape (hold_of state reader)
  pub few : length state.desk.retired ≤ state.shape.slots
  pub numbers : length state.desk.numbers ≡ state.shape.keys
  pub within : (at : ℕ) → at < state.shape.keys → number_at state.desk at ≤ last_number
  pub place : RoomForStep state state.desk.place
