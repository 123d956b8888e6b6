use Rattle.std.proofs.Common.{refl}
use Rattle.nr_cache.proofs.store.Store.begin_change.Goals as goal

pub returns : goal.returns
returns c =
    rw (← c.self.view_is)
    (record {
      found = c.outdate.result;
      mid = c.outdate.new.self;
      outdates = c.outdate.ensures;
      begins = c.begin_change.ensures;
      rest = refl;
    })
