use Rattle.nr_ids.proofs.Logs.{one_way}
use Rattle.nr_ids.proofs.laws.one_way.Goals as goal

pub returns : goal.returns
returns c = one_way
