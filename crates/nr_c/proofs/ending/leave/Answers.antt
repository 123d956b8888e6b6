use Rattle.nr_c.specs.Endings.{has_ended}
use Rattle.nr_c.proofs.ending.leave.Goals as goal

pub returns : goal.returns
returns g c = has_ended _
