use Rattle.nr_idmap.proofs.Heard.{finds_id_heard}
use Rattle.nr_idmap.proofs.laws.finds_what_it_heard.Goals as goal

pub returns : goal.returns
returns g c = finds_id_heard g.R.RowRoom.shows c.finds_what_it_heard-2.ensures c.finds_what_it_heard.ensures
