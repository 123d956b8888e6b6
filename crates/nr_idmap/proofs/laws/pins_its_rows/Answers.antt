use Rattle.nr_idmap.proofs.HandRows.{pins_its_rows}
use Rattle.nr_idmap.proofs.laws.pins_its_rows.Goals as goal

pub returns : goal.returns
returns c = pins_its_rows c.finds_what_it_heard.ensures
