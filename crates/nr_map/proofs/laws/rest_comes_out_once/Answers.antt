use Rattle.nr_map.proofs.Remainders.{rest_comes_out_once_lem}
use Rattle.nr_map.proofs.laws.rest_comes_out_once.Goals as goal

pub returns : goal.returns
returns g c = rest_comes_out_once_lem g.R.RowRoom.shows
