use Rattle.nr_core.proofs.ReaderSteps.{looks_up}
use Rattle.nr_core.proofs.laws.looks_up.Goals as goal

pub returns : goal.returns
returns c = looks_up
