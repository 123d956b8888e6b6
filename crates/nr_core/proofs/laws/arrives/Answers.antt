use Rattle.nr_core.proofs.ReaderSteps.{arrives}
use Rattle.nr_core.proofs.laws.arrives.Goals as goal

pub returns : goal.returns
returns c = arrives
