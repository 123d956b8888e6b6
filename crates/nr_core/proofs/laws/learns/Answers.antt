use Rattle.nr_core.proofs.Learn.{learns}
use Rattle.nr_core.proofs.laws.learns.Goals as goal

pub returns : goal.returns
returns c = learns
