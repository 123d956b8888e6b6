use Rattle.std.proofs.Common.{refl}
use Rattle.nr_cache.proofs.store.Store.invalidate.Goals as goal

pub returns-clause-invalidates : goal.returns-clause-invalidates
returns-clause-invalidates c =
    rw (← c.self.view_is)
    (record {
      found = c.outdate.result;
      outdates = c.outdate.ensures;
      takes = c.let_go.ensures.loses;
      gone = c.let_go.ensures.gone;
      rest = refl;
      weighs = (refl, refl, c.let_go.ensures.lightens);
    })
