use Rattle.nr_core.proofs.WriterSteps.{looks}
use Rattle.nr_core.proofs.laws.looks.Goals as goal

pub returns : goal.returns
returns c = looks
