use Rattle.std.proofs.Common.{refl}
use Rattle.nr_cache.proofs.Quiets.{reap_moves}
use Rattle.nr_cache.proofs.store.Store.reap.Goals as goal

pub returns-clause-reaps : goal.returns-clause-reaps
returns-clause-reaps g c =
    let gives =
    reap_moves g.R.RowRoom.shows c.self.inside.writer.writer c.reap.new.writer.writer c.args.had.now c.reap.new.had
    c.reap.result c.reap.ensures.reaps in
    rw (← c.self.view_is)
    (record {
      reaps = c.reap.ensures.reaps;
      out = gives.0;
      moves = gives.1;
      gives = gives.2;
      rest = (refl, refl, c.reap.ensures.clerk, c.reap.ensures.asker, (refl, refl, refl));
    })
