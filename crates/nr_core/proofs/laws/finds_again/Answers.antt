use Rattle.nr_core.proofs.ReaderSteps.{finds_again}
use Rattle.nr_core.proofs.laws.finds_again.Goals as goal

pub returns : goal.returns
returns c = finds_again
