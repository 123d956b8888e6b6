use Rattle.nr_cache.proofs.Quiets.{goes_on_lem}
use Rattle.nr_cache.proofs.laws.goes_on.Goals as goal

pub returns : goal.returns
returns g c = goes_on_lem g.R.RowRoom.shows
