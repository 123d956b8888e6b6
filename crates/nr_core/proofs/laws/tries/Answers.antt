use Rattle.nr_core.proofs.Settle.{tries}
use Rattle.nr_core.proofs.laws.tries.Goals as goal

pub returns : goal.returns
returns c = tries
