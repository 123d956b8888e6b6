use Rattle.std.proofs.Common.{refl}
use Rattle.nr_cache.proofs.Placing.{enters_holds, holds_replaced}
use Rattle.nr_cache.proofs.values.put_value.Goals as goal

pub returns-in-Some-clause-puts : goal.returns-in-Some-clause-puts
returns-in-Some-clause-puts g c =
    holds_replaced g.R.RowRoom.shows
    (record {
      way = c.in-Some.way;
      mid = c.way_of-found.new.writer;
      finds = (c.in-Some.ensures.finds, c.in-Some.ensures.stays);
      replaces = c.replace.ensures.replaces;
      asks = refl;
    })

pub returns-in-None-clause-puts : goal.returns-in-None-clause-puts
returns-in-None-clause-puts g c =
    enters_holds g.R.RowRoom.shows c.args.limit.now.capacity c.args.bound c.args.weight c.args.id c.args.row _
    c.way_of-found.new.writer c.args.asker.now c.args.had.now _ c.enter.new.asker c.enter.new.had c.enter.result
    (c.in-None.ensures.finds, c.in-None.ensures.stays) c.enter.ensures.enters
