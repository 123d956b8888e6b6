use Rattle.nr_idserve.proofs.IdLedger.{each_upquery_ends_once_lem}
use Rattle.nr_idserve.proofs.laws.each_upquery_ends_once.Goals as goal

pub returns : goal.returns
returns c = each_upquery_ends_once_lem c.one_upquery.ensures
