use Rattle.std.proofs.Common.{arith, ◌∙◌}
use Rattle.nr_map.proofs.Ledgers.{stands_once}
use Rattle.nr_map.proofs.laws.nobody_holds_it.Goals as goal

pub returns : goal.returns
returns c writer gone reader slot number ledger stands holds let_go same =
    let placed = stands slot holds in
    let none = (stands_once writer gone slot number ledger (ledger.taken slot placed.1) (placed.0 ∙ same) placed.2).1 in
    omega arith
