use Rattle.nr_core.proofs.InTime.{entries_in_time_lem}
use Rattle.nr_core.proofs.laws.entries_in_time.Goals as goal

pub returns : goal.returns
returns c = entries_in_time_lem
