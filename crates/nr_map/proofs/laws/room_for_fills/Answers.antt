use Rattle.nr_map.proofs.NoSlots.{no_slot_is_rare_lem}
use Rattle.nr_map.proofs.laws.room_for_fills.Goals as goal

pub returns : goal.returns
returns c key number rows old new counts room without = (no_slot_is_rare_lem 1 _ counts old new without).2 room
