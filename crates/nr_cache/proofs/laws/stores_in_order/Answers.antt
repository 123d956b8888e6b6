use Rattle.nr_cache.proofs.StoreRuns.{stores_in_order_lem}
use Rattle.nr_cache.proofs.laws.stores_in_order.Goals as goal

pub returns : goal.returns
returns g c = stores_in_order_lem g.R.RowRoom.shows
