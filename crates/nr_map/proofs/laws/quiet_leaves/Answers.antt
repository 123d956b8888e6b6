use Rattle.nr_map.proofs.Keeping.{kept_ledger, quiet_keeps}
use Rattle.nr_map.proofs.laws.quiet_leaves.Goals as goal

pub returns : goal.returns
returns c steps call answer old new gone quiet gains stays =
    kept_ledger old new gone (quiet_keeps steps call answer quiet gains stays)
