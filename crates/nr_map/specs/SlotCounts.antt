-- How the slots of a map are in use.
use Rattle.std.specs.Prelude.{◌≡◌, ℕ, ◌+◌, length}
use Rattle.nr_model.specs.Maps.{filled_count}
use Rattle.nr_model.specs.declared.calls.Call.{Call}
use Rattle.nr_core.specs.declared.calls.NoSlot.{NoSlot}
use Rattle.nr_board.specs.Callers.{Caller, map_seen}
use Rattle.nr_board.specs.Meetings.{Learns}
use Rattle.nr_board.specs.WriterAnswers.{HasNoSlot}
use Rattle.nr_map.specs.declared.slot_counts.SlotCounts.{SlotCounts}

-- each slot is counted as a filled key's, as retired or as never taken, after the history so far, which the writer
-- learns
pub record CountsSlots (old new : Caller) (counts : SlotCounts) : Type 0 where
  pub learns : Learns 1 old new
  pub filled : counts.filled ≡ filled_count (map_seen new)
  pub retired : counts.retired ≡ length new.retired
  -- these slots were taken, and the free ones never were
  pub taken : counts.filled + counts.retired ≡ new.fresh
  pub all : counts.filled + counts.retired + counts.free ≡ new.table.shape.slots

-- after a call that found no slot they are the counts that it answered, and none is free
abbrev pub CountsAtNoSlot : Type 0
CountsAtNoSlot =
    (steps : ℕ) (call : Call) (answered : NoSlot) (old new after : Caller) (counts : SlotCounts) →
    HasNoSlot steps call old new answered →
    CountsSlots new after counts →
    counts ≡ record { filled = answered.live; retired = answered.held; free = 0 }
