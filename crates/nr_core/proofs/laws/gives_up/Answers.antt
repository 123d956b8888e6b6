use Rattle.nr_core.proofs.Settle.{gives_up}
use Rattle.nr_core.proofs.laws.gives_up.Goals as goal

pub returns : goal.returns
returns c = gives_up
