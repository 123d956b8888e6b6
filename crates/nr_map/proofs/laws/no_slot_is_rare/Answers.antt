use Rattle.nr_map.proofs.NoSlots.{no_slot_is_rare_lem}
use Rattle.nr_map.proofs.laws.no_slot_is_rare.Goals as goal

pub returns : goal.returns
returns c = no_slot_is_rare_lem
