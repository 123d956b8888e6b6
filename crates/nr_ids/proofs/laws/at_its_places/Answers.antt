use Rattle.nr_ids.proofs.Logs.{named_inside}
use Rattle.nr_ids.proofs.laws.at_its_places.Goals as goal

pub returns : goal.returns
returns c = named_inside
