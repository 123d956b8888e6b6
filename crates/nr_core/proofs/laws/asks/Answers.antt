use Rattle.nr_core.proofs.ReaderSteps.{asks}
use Rattle.nr_core.proofs.laws.asks.Goals as goal

pub returns : goal.returns
returns c = asks
