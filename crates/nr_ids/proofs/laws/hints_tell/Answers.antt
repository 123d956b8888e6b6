use Rattle.nr_ids.proofs.Hinted.{hints_tell}
use Rattle.nr_ids.proofs.laws.hints_tell.Goals as goal

pub returns : goal.returns
returns c = hints_tell
