use Rattle.nr_map.proofs.Keeping.{evict_keeps, kept_ledger}
use Rattle.nr_map.proofs.laws.eviction_leaves.Goals as goal

pub returns : goal.returns
returns c key old new answer gone evicts = kept_ledger old new gone (evict_keeps key answer evicts)
