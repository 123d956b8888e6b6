use Rattle.nr_map.proofs.NoSlots.{done_lem}
use Rattle.nr_map.proofs.laws.done_means_fewer_in_use.Goals as goal

pub returns : goal.returns
returns c = done_lem
