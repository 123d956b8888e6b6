use Rattle.nr_idmap.proofs.LedgerLaws.{one_upquery}
use Rattle.nr_idmap.proofs.laws.one_upquery.Goals as goal

pub returns : goal.returns
returns c = one_upquery
