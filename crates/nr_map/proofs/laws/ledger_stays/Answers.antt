use Rattle.nr_map.proofs.Ledgers.{ledger_stays_lem}
use Rattle.nr_map.proofs.laws.ledger_stays.Goals as goal

pub returns : goal.returns
returns c = ledger_stays_lem
