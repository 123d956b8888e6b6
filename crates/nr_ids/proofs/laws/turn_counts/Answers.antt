use Rattle.nr_ids.proofs.LawProofs.{turn_counts}
use Rattle.nr_ids.proofs.laws.turn_counts.Goals as goal

pub returns : goal.returns
returns c = turn_counts
