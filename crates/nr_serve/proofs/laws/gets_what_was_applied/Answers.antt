use Rattle.nr_serve.proofs.Heard.{gets_what_was_applied_lem}
use Rattle.nr_serve.proofs.laws.gets_what_was_applied.Goals as goal

pub returns : goal.returns
returns g c = gets_what_was_applied_lem g.M.Measure.reached c.gets_what_it_heard.ensures
