use Rattle.nr_idmap.proofs.Readings.{reads_as_ids}
use Rattle.nr_idmap.proofs.laws.reads_as_ids.Goals as goal

pub returns : goal.returns
returns c = reads_as_ids
