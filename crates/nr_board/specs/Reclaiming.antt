-- What a call gives out of the slot that it took: the set that was put there last, or nothing where the slot was never
-- taken or was reaped.
use Rattle.std.specs.Prelude.{◌≡◌, ℕ, ◌+◌, ◌*◌, ◌<◌, ◌≤◌, ◌⊎◌, true, false, List, length, slice_index_or, Result, Ok}
use Rattle.std.specs.Prelude.{Err}
use Rattle.nr_model.specs.Batches.{applied}
use Rattle.nr_model.specs.Rows.{IsRowSet}
use Rattle.nr_model.specs.declared.batches.Delta.{Delta}
use Rattle.nr_model.specs.declared.calls.Call.{Call}
use Rattle.nr_model.specs.declared.calls.Call.TheVariants as model
use Rattle.nr_model.specs.declared.rows.Row.{Row}
use Rattle.nr_core.specs.SlotLists.{SlotLists}
use Rattle.nr_core.specs.declared.calls.NoSlot.{NoSlot}
use Rattle.nr_core.specs.declared.calls.WriterCall.{WriterCall}
use Rattle.nr_core.specs.Marks.{Marks, set_in}
use Rattle.nr_board.specs.declared.answers.FillFault.{FillFault}
use Rattle.nr_board.specs.declared.answers.Reclaimed.{Reclaimed}
use Rattle.nr_board.specs.declared.answers.Reclaimed.TheVariants as reclaimed
use Rattle.nr_board.specs.declared.answers.ReplaceFault.{ReplaceFault}
use Rattle.nr_board.specs.declared.answers.UpdateFault.{UpdateFault}
use Rattle.nr_board.specs.declared.publish.Taken.{Taken}
use Rattle.nr_board.specs.Callers.{Caller, Table}
use Rattle.nr_board.specs.Recalls.{later}
use Rattle.nr_board.specs.SlotLists.{lists_of}
use Rattle.nr_board.specs.WriterAnswers.{FillsKey, KeyHad, Publishes, ReplacesKey, UpdatesKey}
use Rattle.nr_board.specs.WriterSeats.{LacksSlot, MapSeat, PublishesSet, TakesSlot}

module _ {Room : Type 0} (shows : Room → List Row → Type 0) where
  -- By that many steps the room has the set that was put into the slot last, since no slot was left that was never
  -- taken, and the slot was not reaped. Else it is such a one.
  abbrev pub HandsOut : ℕ → SlotLists → ℕ → List Row → Room → Room → ℕ → Reclaimed → Type 0
  HandsOut bound lists slot set before after steps reclaimed.Set =
      (lists.slots ≤ lists.fresh) × (slice_index_or lists.reaped slot false ≡ false) × (steps ≡ 2 * length set + 1)
      × shows after set × IsRowSet bound set
  HandsOut bound lists slot set before after steps reclaimed.Nothing =
      ((lists.fresh < lists.slots) ⊎ (slice_index_or lists.reaped slot false ≡ true)) × (steps ≡ 0) × (after ≡ before)

  -- the same, by the set that the slot had as the writer knows it before the call
  abbrev pub HandsOutAt : Table → SlotLists → Marks → ℕ → Room → Room → ℕ → Reclaimed → Type 0
  HandsOutAt table lists marks slot before after steps given =
      HandsOut table.shape.rows lists slot (set_in marks slot) before after steps given

  -- what a search changes: the writer's seat, its slots, and the room
  pub record Searcher : Type 0 where
    pub seat : MapSeat
    pub lists : SlotLists
    pub room : Room

  -- the search for a slot, as it stands after those steps
  abbrev pub TakesReclaiming : Table → WriterCall → List Row → Searcher → Searcher → Result (Taken × Reclaimed) NoSlot
      → Type 0
  TakesReclaiming table call rows old new (Ok taken) =
      (steps : ℕ)
      × TakesSlot table call rows (later steps old.seat) old.lists new.seat new.lists taken.0.slot
      taken.0.departures
      × HandsOutAt table old.lists old.seat.me.0.marks taken.0.slot old.room new.room steps taken.1
  TakesReclaiming table call rows old new (Err counts) =
      LacksSlot table call old.seat old.lists new.seat new.lists counts × (new.room ≡ old.room)

  abbrev pub PublishesReclaiming : Table → WriterCall → List Row → Searcher → Searcher → Result Reclaimed NoSlot
      → Type 0
  PublishesReclaiming table call rows old new (Ok given) =
      (steps : ℕ) × (published : PublishesSet table call rows (later steps old.seat) old.lists new.seat new.lists)
      × HandsOutAt table old.lists old.seat.me.0.marks published.slot old.room new.room steps given
  PublishesReclaiming table call rows old new (Err counts) =
      LacksSlot table call old.seat old.lists new.seat new.lists counts × (new.room ≡ old.room)

  -- a call that put its set, besides that many other steps, and gave out what the slot had
  pub record PutsAndGives (others : ℕ) (call : Call) (rows : List Row) (old : Caller) (room : Room) (new : Caller)
      (then : Room) (given : Reclaimed) : Type 0 where
    pub steps : ℕ
    pub published : Publishes (others + steps) call rows old new
    pub gives : HandsOutAt old.table (lists_of old) old.marks published.slot room then steps given

  -- A call that did not put its set leaves the room as it was.
  abbrev pub FillsReclaiming : ℕ → ℕ → List Row → Caller → Room → Caller → Room → Result Reclaimed FillFault → Type 0
  FillsReclaiming key number rows old room new then (Ok given) =
      PutsAndGives 1 (model.Fill key number rows) rows old room new then given
  FillsReclaiming key number rows old room new then (Err fault) =
      FillsKey key number rows old new (Err fault) × (then ≡ room)

  abbrev pub ReplacesReclaiming : ℕ → List Row → Caller → Room → Caller → Room → Result Reclaimed ReplaceFault → Type 0
  ReplacesReclaiming key rows old room new then (Ok given) =
      PutsAndGives 1 (model.Replace key rows) rows old room new then given
  ReplacesReclaiming key rows old room new then (Err fault) = ReplacesKey key rows old new (Err fault) × (then ≡ room)

  -- an update that looked, read the key's set, put the rows left, and gave out what the slot had
  pub record UpdatesAndGives (bound key : ℕ) (batch : List Delta) (old : Caller) (room : Room) (new : Caller)
      (then : Room) (given : Reclaimed) : Type 0 where
    pub set : List Row
    pub left : List Row
    pub applies : applied bound set batch ≡ Ok left
    pub steps : ℕ
    pub published : Publishes (2 * length set + 2 + steps) (model.Update key batch) left old new
    pub had : KeyHad key set old published.gains.between
    pub gives : HandsOutAt old.table (lists_of old) old.marks published.slot room then steps given

  abbrev pub UpdatesReclaiming : ℕ → ℕ → List Delta → Caller → Room → Caller → Room → Result Reclaimed UpdateFault
      → Type 0
  UpdatesReclaiming bound key batch old room new then (Ok given) =
      UpdatesAndGives bound key batch old room new then given
  UpdatesReclaiming bound key batch old room new then (Err fault) =
      UpdatesKey bound key batch old new (Err fault) × (then ≡ room)
