use Rattle.nr_map.proofs.Ledgers.{ledger_goes_on}
use Rattle.nr_map.proofs.laws.handed_out_once.Goals as goal

pub returns : goal.returns
returns c = ledger_goes_on
