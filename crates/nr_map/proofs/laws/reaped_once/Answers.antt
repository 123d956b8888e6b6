use Rattle.nr_map.proofs.Ledgers.{reaped_once_lem}
use Rattle.nr_map.proofs.laws.reaped_once.Goals as goal

pub returns : goal.returns
returns c = reaped_once_lem
