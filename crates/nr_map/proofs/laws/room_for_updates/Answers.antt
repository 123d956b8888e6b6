use Rattle.nr_map.proofs.NoSlots.{no_slot_is_rare_lem}
use Rattle.nr_map.proofs.laws.room_for_updates.Goals as goal

pub returns : goal.returns
returns c bound key batch old new counts room updates = (no_slot_is_rare_lem _ _ counts old new updates.3).2 room
