-- What a call of the writer has made when it turns to a slot for its set, or has answered before.
use Rattle.std.specs.Prelude.{◌≡◌, ℕ, ◌+◌, ◌*◌, List, [], length, Result, Ok, Err}
use Rattle.nr_model.specs.Batches.{applied}
use Rattle.nr_model.specs.Rows.{IsRowSet}
use Rattle.nr_model.specs.declared.batches.Delta.{Delta}
use Rattle.nr_model.specs.declared.rows.Row.{Row}
use Rattle.nr_core.specs.Slots.{bound_of}
use Rattle.nr_core.specs.SlotLists.{SlotLists}
use Rattle.nr_core.specs.Story.{call_of}
use Rattle.nr_core.specs.Writer.{decided, step_in}
use Rattle.nr_core.specs.declared.calls.WriterCall.{WriterCall}
use Rattle.nr_core.specs.declared.calls.WriterCall.TheVariants.{Fill, Replace, Update}
use Rattle.nr_core.specs.declared.places.Place.TheVariants.{Reading}
use Rattle.nr_core.specs.Marks.{with_polls}
use Rattle.nr_board.specs.declared.answers.FillFault.{FillFault}
use Rattle.nr_board.specs.declared.answers.ReplaceFault.{ReplaceFault}
use Rattle.nr_board.specs.declared.answers.UpdateFault.{UpdateFault}
use Rattle.nr_board.specs.Callers.{Grows, Table, token}
use Rattle.nr_board.specs.SlotLists.{desk_with}
use Rattle.nr_board.specs.Views.{view_of}
use Rattle.nr_board.specs.WriterAnswers.{FillsKey, ReplacesKey, UpdatesKey}
use Rattle.nr_board.specs.WriterSeats.{KeyHas, LeadsIn, MapSeat, RestsAt, Settles}

-- it has its set after that many steps: it looks for a slot
pub record HasSet (table : Table) (lists : SlotLists) (steps : ℕ) (call : WriterCall) (rows : List Row)
    (before mid : MapSeat) : Type 0 where
  pub rests : RestsAt table lists before
  pub settles : Settles table call rows lists mid
  pub grows : Grows steps [] (token before) (token mid)
  pub marks : (view_of mid).marks ≡ with_polls (view_of before).marks []
  pub heard : (view_of mid).heard ≡ (view_of before).heard

-- the call's look found the key filled, and the call has read the set
pub record HasRead (table : Table) (lists : SlotLists) (call : WriterCall) (slot : ℕ) (rows : List Row)
    (before after : MapSeat) : Type 0 where
  pub own : (token before).table ≡ table
  pub rests : RestsAt table lists before
  pub row_set : IsRowSet (bound_of table.shape) rows
  pub leads : LeadsIn (2 * length rows + 2) table (call_of call)
      (decided table.shape (desk_with lists (Reading call slot [])) call rows) before after
  pub had : KeyHas table call rows (step_in (decided table.shape (desk_with lists (Reading call slot [])) call rows))
      after
  pub marks : (view_of after).marks ≡ with_polls (view_of before).marks []
  pub heard : (view_of after).heard ≡ (view_of before).heard

-- a fill and a replacement have their set by their look
abbrev pub BeginsFill : Table → SlotLists → ℕ → ℕ → List Row → MapSeat → MapSeat → Result (Unit {0}) FillFault → Type 0
BeginsFill table lists key number rows old new (Ok done) = HasSet table lists 1 (Fill key number rows) rows old new
BeginsFill table lists key number rows old new (Err fault) =
    RestsAt (token new).table lists new × FillsKey key number rows (token old) (token new) (Err fault)
    × ((view_of new).heard ≡ (view_of old).heard)

abbrev pub BeginsReplace : Table → SlotLists → ℕ → List Row → MapSeat → MapSeat → Result (Unit {0}) ReplaceFault
    → Type 0
BeginsReplace table lists key rows old new (Ok done) = HasSet table lists 1 (Replace key rows) rows old new
BeginsReplace table lists key rows old new (Err fault) =
    RestsAt (token new).table lists new × ReplacesKey key rows (token old) (token new) (Err fault)
    × ((view_of new).heard ≡ (view_of old).heard)

-- an update has read the key's set, and applied the batch to it
abbrev pub BeginsUpdate : Table → SlotLists → ℕ → List Delta → List Row → MapSeat → MapSeat
    → Result (Unit {0}) UpdateFault
    → Type 0
BeginsUpdate table lists key batch left old new (Ok done) =
    (slot : ℕ) × (rows : List Row) × HasRead table lists (Update key batch) slot rows old new
    × (applied (bound_of table.shape) rows batch ≡ Ok left)
BeginsUpdate table lists key batch left old new (Err fault) =
    RestsAt (token new).table lists new
    × UpdatesKey (bound_of table.shape) key batch (token old) (token new) (Err fault)
    × ((view_of new).heard ≡ (view_of old).heard)
