use Rattle.nr_idmap.proofs.HeardRows.{finds_its_rows}
use Rattle.nr_idmap.proofs.laws.finds_its_rows.Goals as goal

pub returns : goal.returns
returns g c = finds_its_rows g.R.RowRoom.shows c.finds_what_it_heard.ensures
