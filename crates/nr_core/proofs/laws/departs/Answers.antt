use Rattle.nr_core.proofs.ReaderSteps.{departs}
use Rattle.nr_core.proofs.laws.departs.Goals as goal

pub returns : goal.returns
returns c = departs
