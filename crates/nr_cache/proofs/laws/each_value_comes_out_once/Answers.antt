use Rattle.nr_cache.proofs.StoreRuns.{each_value_comes_out_once_lem}
use Rattle.nr_cache.proofs.laws.each_value_comes_out_once.Goals as goal

pub returns : goal.returns
returns g c = each_value_comes_out_once_lem g.R.RowRoom.shows c.each_set_comes_out_once.ensures
