use Rattle.nr_map.proofs.Written.{finds_what_it_heard_lem}
use Rattle.nr_map.proofs.laws.finds_what_it_heard.Goals as goal

pub returns : goal.returns
returns c = finds_what_it_heard_lem
