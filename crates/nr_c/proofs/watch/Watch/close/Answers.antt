use Rattle.std.proofs.Common.{rules}
use Rattle.nr_c.proofs.ClosingSteps.{closes}
use Rattle.nr_c.proofs.watch.Watch.close.Goals as goal

pub store-requires : goal.store-requires
store-requires c = (search rules, search rules, closes _ _ _)
