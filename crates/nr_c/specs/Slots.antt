-- How the slots of a map are in use, as C has it.
use Rattle.std.specs.Prelude.{ℕ, ◌≡◌}
use Rattle.nr_board.specs.Callers.{Caller}
use Rattle.nr_map.specs.SlotCounts.{CountsSlots}
use Rattle.nr_map.specs.declared.slot_counts.SlotCounts.{SlotCounts}
use Rattle.nr_c.specs.Numbers.{answer_done}
use Rattle.nr_c.specs.declared.slots.NrSlots.{NrSlots}

abbrev pub slots_of : SlotCounts → NrSlots
slots_of counts = record { filled = counts.filled; retired = counts.retired; free = counts.free }

-- the map's counts, each told in its own field
abbrev pub CountsByCode : NrSlots → Caller → Caller → ℕ → Type 0
CountsByCode told old new code =
    (code ≡ answer_done) × (counts : SlotCounts) × (told ≡ slots_of counts) × CountsSlots old new counts
