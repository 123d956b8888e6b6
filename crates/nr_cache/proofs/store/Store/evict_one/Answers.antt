use Rattle.std.proofs.Common.{refl}
use Rattle.nr_cache.proofs.store.Store.evict_one.Goals as goal

pub returns-clause-evicts : goal.returns-clause-evicts
returns-clause-evicts c =
    rw (← c.self.view_is)
    (record { takes = c.take_first.ensures.takes; rest = (refl, refl, c.take_first.ensures.same) })
