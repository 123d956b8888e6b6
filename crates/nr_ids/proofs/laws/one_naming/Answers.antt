use Rattle.nr_ids.proofs.LawProofs.{one_naming}
use Rattle.nr_ids.proofs.laws.one_naming.Goals as goal

pub returns : goal.returns
returns c = one_naming
