use Rattle.std.proofs.Common.{rules}
use Rattle.nr_c.proofs.ClosingSteps.{looks}
use Rattle.nr_c.proofs.watch.Watch.is_closed.Goals as goal

pub load-requires : goal.load-requires
load-requires c = (search rules, search rules, looks _ _ _)
