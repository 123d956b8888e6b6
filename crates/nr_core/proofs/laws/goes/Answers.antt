use Rattle.nr_core.proofs.WriterSteps.{goes}
use Rattle.nr_core.proofs.laws.goes.Goals as goal

pub returns : goal.returns
returns c = goes
