use Rattle.nr_core.proofs.ReaderSteps.{holds_named}
use Rattle.nr_core.proofs.laws.holds_named.Goals as goal

pub returns : goal.returns
returns c = holds_named
