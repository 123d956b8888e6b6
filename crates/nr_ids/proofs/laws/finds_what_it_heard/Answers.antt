use Rattle.nr_ids.proofs.LawProofs.{finds_what_it_heard}
use Rattle.nr_ids.proofs.laws.finds_what_it_heard.Goals as goal

pub returns : goal.returns
returns c = finds_what_it_heard
