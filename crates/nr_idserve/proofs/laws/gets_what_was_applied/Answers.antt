use Rattle.nr_idserve.proofs.IdTelling.{gets_what_was_applied_lem}
use Rattle.nr_idserve.proofs.laws.gets_what_was_applied.Goals as goal

pub returns : goal.returns
returns g c = gets_what_was_applied_lem g.M.IdMeasure.reached g.R.RowRoom.shows c.finds_what_it_heard.ensures
