use Rattle.nr_map.proofs.Keeping.{cancel_keeps, kept_ledger}
use Rattle.nr_map.proofs.laws.cancel_leaves.Goals as goal

pub returns : goal.returns
returns c key old new answer gone cancels = kept_ledger old new gone (cancel_keeps key answer cancels)
