use Rattle.nr_serve.proofs.Heard.{gets_what_it_heard_lem}
use Rattle.nr_serve.proofs.laws.gets_what_it_heard.Goals as goal

pub returns : goal.returns
returns c = gets_what_it_heard_lem c.finds_written.ensures
