use Rattle.nr_cache.proofs.store.Store.end_change.Goals as goal

pub returns-clause-ends : goal.returns-clause-ends
returns-clause-ends c = rw (← c.self.view_is) c.end_change.ensures
