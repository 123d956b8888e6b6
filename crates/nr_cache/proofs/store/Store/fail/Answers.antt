use Rattle.std.proofs.Common.{refl}
use Rattle.nr_cache.proofs.store.Store.fail.Goals as goal

pub returns : goal.returns
returns c = rw (← c.self.view_is) (record { ends = c.end.ensures.ends; rest = refl })
