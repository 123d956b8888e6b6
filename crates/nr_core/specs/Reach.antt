-- The states that events lead to.
use Rattle.std.specs.Prelude.{◌≡◌, List}
use Rattle.nr_core.specs.Slots.{bound_of}
use Rattle.nr_core.specs.States.{State, Event}
use Rattle.nr_core.specs.Machine.{run}
use Rattle.nr_core.specs.Sizes.{IsShape}
use Rattle.nr_core.specs.Laws.{AllGiven}

-- some events lead from the opening to the state
pub record Reached (state : State) : Type 0 where
  pub events : List Event
  pub shape : IsShape state.shape
  pub given : AllGiven (bound_of state.shape) events
  pub leads : state ≡ run state.shape events
