-- The parts in which the machine keeps its state. The writer's stage in its call is numbers alone, and beside it the
-- call, the set that it puts and the words that it has read.
use Rattle.std.specs.Prelude.{ℕ, List}
use Rattle.nr_model.specs.declared.rows.Row.{Row}
use Rattle.nr_core.specs.declared.calls.WriterCall.{WriterCall}
use Rattle.nr_core.specs.declared.places.Place.{Place}
use Rattle.nr_core.specs.declared.places.Place.TheVariants.{Idle, Reading, Leaving, Withdrawing, Searching, Putting}
use Rattle.nr_core.specs.declared.places.Stage.{Stage}
use Rattle.nr_core.specs.declared.machine.Machine.{Machine}
use Rattle.nr_core.specs.States.{State}
use Rattle.nr_core.specs.declared.places.Stage.TheVariants as stage

-- the writer's place that the parts make
abbrev pub placed : Stage → WriterCall → List Row → List ℕ → Place
placed stage.Idle call rows got = Idle
placed (stage.Reading slot) call rows got = Reading call slot got
placed (stage.Leaving key) call rows got = Leaving key
placed (stage.Withdrawing key) call rows got = Withdrawing key
placed (stage.Searching poll) call rows got = Searching call rows poll
placed (stage.Putting slot departed index) call rows got = Putting call rows slot departed index

-- the state that the machine is in
abbrev pub machine_state : Machine → State
machine_state machine = record {
  shape =
      record {
        keys = machine.layout.keys;
        slots = machine.layout.slots;
        readers = machine.readers;
        first_count = machine.first_count;
        first_number = machine.first_number;
        rows = machine.layout.rows;
      };
  words = machine.words.cells;
  holds = machine.holds.items;
  desk =
      record {
        place = placed machine.stage machine.call machine.rows machine.got;
        fresh = machine.lists.fresh;
        retired = machine.lists.retired;
        numbers = machine.lists.numbers;
      };
  made = machine.words.made;
}
