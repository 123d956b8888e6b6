use Rattle.nr_ids.proofs.Calls.{clerk_names}
use Rattle.nr_ids.proofs.laws.clerk_knows.Goals as goal

pub returns : goal.returns
returns c = clerk_names
