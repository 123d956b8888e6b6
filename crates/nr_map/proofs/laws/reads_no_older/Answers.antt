use Rattle.nr_map.proofs.Written.{reads_no_older_lem}
use Rattle.nr_map.proofs.laws.reads_no_older.Goals as goal

pub returns : goal.returns
returns c = reads_no_older_lem
