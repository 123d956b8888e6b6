use Rattle.nr_trigger.proofs.Passes.{opening-delivers}
use Rattle.nr_trigger.proofs.triggers.seated.Goals as goal

pub ruled-requires-clause-rule : goal.ruled-requires-clause-rule
ruled-requires-clause-rule g c = opening-delivers
