use Rattle.nr_trigger.proofs.Once.{comes-out-once}
use Rattle.nr_trigger.proofs.laws.comes_out_once.Goals as goal

pub returns : goal.returns
returns c = comes-out-once
