use Rattle.nr_idmap.proofs.Readings.{one_set}
use Rattle.nr_idmap.proofs.laws.one_set.Goals as goal

pub returns : goal.returns
returns c = one_set
