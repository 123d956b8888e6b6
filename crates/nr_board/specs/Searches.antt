-- What the search for a slot gives, and a call that publishes its set there.
use Rattle.std.specs.Prelude.{◌≤◌, List, Result, Ok, Err}
use Rattle.nr_model.specs.declared.rows.Row.{Row}
use Rattle.nr_core.specs.declared.calls.NoSlot.{NoSlot}
use Rattle.nr_core.specs.declared.calls.WriterCall.{WriterCall}
use Rattle.nr_board.specs.declared.publish.Taken.{Taken}
use Rattle.nr_board.specs.Callers.{Table}
use Rattle.nr_core.specs.SlotLists.{SlotLists}
use Rattle.nr_board.specs.WriterSeats.{LacksSlot, MapSeat, PublishesSet, Settles, TakesSlot}

abbrev pub TakesFor : Table → WriterCall → List Row → MapSeat → SlotLists → MapSeat → SlotLists → Result Taken NoSlot
    → Type 0
TakesFor table call rows old lists new after (Ok taken) =
    TakesSlot table call rows old lists new after taken.slot taken.departures
TakesFor table call rows old lists new after (Err counts) = LacksSlot table call old lists new after counts

-- a search of the retired slots, for whatever call it is
abbrev pub SearchesFor : Table → MapSeat → SlotLists → MapSeat → SlotLists → Result Taken NoSlot → Type 0
SearchesFor table old lists new after result =
    (call : WriterCall) (rows : List Row) → Settles table call rows lists old → lists.slots ≤ lists.fresh
    → TakesFor table call rows old lists new after result

abbrev pub PublishesFor : Table → WriterCall → List Row → MapSeat → SlotLists → MapSeat → SlotLists
    → Result (Unit {0}) NoSlot
    → Type 0
PublishesFor table call rows old lists new after (Ok done) = PublishesSet table call rows old lists new after
PublishesFor table call rows old lists new after (Err counts) = LacksSlot table call old lists new after counts
