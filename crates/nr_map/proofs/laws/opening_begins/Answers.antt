use Rattle.nr_map.proofs.Ledgers.{opening_begins_lem}
use Rattle.nr_map.proofs.laws.opening_begins.Goals as goal

pub returns : goal.returns
returns c = opening_begins_lem
