use Rattle.nr_map.proofs.Answered.{theorem}
use Rattle.nr_map.proofs.laws.theorem.Goals as goal

pub returns : goal.returns
returns g c = theorem g.R.RowRoom.shows
