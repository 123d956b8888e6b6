use Rattle.nr_core.proofs.Opening.{core_opens}
use Rattle.nr_core.proofs.laws.opens.Goals as goal

pub returns : goal.returns
returns c = core_opens
