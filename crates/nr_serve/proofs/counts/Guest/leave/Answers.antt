use Rattle.nr_serve.specs.Counts.{has_left}
use Rattle.nr_serve.proofs.counts.Guest.leave.Goals as goal

pub returns : goal.returns
returns c = has_left _
