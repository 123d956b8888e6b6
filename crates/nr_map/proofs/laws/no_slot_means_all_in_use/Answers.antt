use Rattle.nr_map.proofs.NoSlots.{no_slot_lem}
use Rattle.nr_map.proofs.laws.no_slot_means_all_in_use.Goals as goal

pub returns : goal.returns
returns c = no_slot_lem
