use Rattle.std.proofs.Common.{refl}
use Rattle.nr_cache.proofs.store.Store.evict.Goals as goal

pub returns-clause-evicts : goal.returns-clause-evicts
returns-clause-evicts c =
    rw (← c.self.view_is)
    (record {
      takes = c.let_go.ensures.loses;
      gone = c.let_go.ensures.gone;
      rest = (refl, refl);
      weighs = (refl, refl, c.let_go.ensures.lightens);
    })
