use Rattle.nr_cache.proofs.StoreRuns.{holds_fresh_lem}
use Rattle.nr_cache.proofs.laws.holds_fresh.Goals as goal

pub returns : goal.returns
returns g c = holds_fresh_lem g.R.RowRoom.shows
