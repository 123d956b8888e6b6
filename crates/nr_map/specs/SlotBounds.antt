-- How few slots a call polls, and how few it can find held.
use Rattle.std.specs.Prelude.{ℕ, ◌+◌, ◌≤◌, List, length, Err}
use Rattle.nr_model.specs.declared.calls.Call.{Call}
use Rattle.nr_model.specs.declared.batches.Delta.{Delta}
use Rattle.nr_model.specs.declared.rows.Row.{Row}
use Rattle.nr_core.specs.declared.calls.NoSlot.{NoSlot}
use Rattle.nr_board.specs.declared.answers.FillFault.TheVariants as fill
use Rattle.nr_board.specs.declared.answers.ReplaceFault.TheVariants as replace
use Rattle.nr_board.specs.declared.answers.UpdateFault.TheVariants as update
use Rattle.nr_board.specs.WriterAnswers.{FillsKey, HasNoSlot, Publishes, ReplacesKey, UpdatesKey}
use Rattle.nr_board.specs.Callers.{Caller, Table}
use Rattle.nr_board.specs.SlotLists.{AreFewSteps}

-- the map has a slot for each key, each reader and one more
abbrev pub HasRoomForAll : Table → Type 0
HasRoomForAll map = map.shape.keys + map.shape.readers + 1 ≤ map.shape.slots

-- a call that was done searched in few steps: without a word it polled at most one slot more than there are readers
abbrev pub SearchesAreShort : Type 0
SearchesAreShort =
    (steps : ℕ) (call : Call) (rows : List Row) (old new : Caller) (published : Publishes steps call rows old new) →
    AreFewSteps old.table published.searched

-- a call that found no slot had no more retired slots than there are readers, each of which kept one back; where the
-- map has room for all, it finds one
abbrev pub NoSlotIsRare : Type 0
NoSlotIsRare =
    (steps : ℕ) (call : Call) (counts : NoSlot) (old new : Caller) →
    HasNoSlot steps call old new counts →
    (length old.retired ≤ old.table.shape.readers) × (counts.held ≤ old.table.shape.readers)
    × (HasRoomForAll old.table → ⊥)

abbrev pub RoomForFills : Type 0
RoomForFills =
    (key number : ℕ) (rows : List Row) (old new : Caller) (counts : NoSlot) →
    HasRoomForAll old.table → FillsKey key number rows old new (Err (fill.NoSlot counts)) → ⊥

abbrev pub RoomForUpdates : Type 0
RoomForUpdates =
    (bound key : ℕ) (batch : List Delta) (old new : Caller) (counts : NoSlot) →
    HasRoomForAll old.table → UpdatesKey bound key batch old new (Err (update.NoSlot counts)) → ⊥

abbrev pub RoomForReplacements : Type 0
RoomForReplacements =
    (key : ℕ) (rows : List Row) (old new : Caller) (counts : NoSlot) →
    HasRoomForAll old.table → ReplacesKey key rows old new (Err (replace.NoSlot counts)) → ⊥
