use Rattle.nr_map.proofs.Keeping.{kept_ledger, lacks_keeps}
use Rattle.nr_map.proofs.laws.no_slot_leaves.Goals as goal

pub returns : goal.returns
returns c steps call counts old new gone without = kept_ledger old new gone (lacks_keeps steps call counts without)
