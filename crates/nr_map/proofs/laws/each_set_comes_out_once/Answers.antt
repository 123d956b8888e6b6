use Rattle.nr_map.proofs.GivenBack.{each_set_comes_out_once_lem}
use Rattle.nr_map.proofs.laws.each_set_comes_out_once.Goals as goal

pub returns : goal.returns
returns g c = each_set_comes_out_once_lem g.R.RowRoom.shows
