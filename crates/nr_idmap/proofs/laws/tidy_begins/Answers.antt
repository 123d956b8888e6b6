use Rattle.nr_idmap.proofs.Readings.{tidy_begins}
use Rattle.nr_idmap.proofs.laws.tidy_begins.Goals as goal

pub returns : goal.returns
returns c = tidy_begins
