use Rattle.std.proofs.Common.{inl, refl}
use Rattle.nr_cache.proofs.Seen.{not_own, puts_by, same_changing}
use Rattle.nr_cache.proofs.store.Store.put.Goals as goal

pub returns-then-is_own-clause-puts : goal.returns-then-is_own-clause-puts
returns-then-is_own-clause-puts g c =
    let same = same_changing c.args.id c.self.inside.flights c.outdate.new.self c.outdate.result c.outdate.ensures in
    let tells = rw same at c.is_own.ensures in
    rw (← c.self.view_is)
    (record {
      found = c.outdate.result;
      outdates = c.outdate.ensures;
      why = inl (
        tells.0 c.if-is_own.true,
        (c.let_go.result, c.let_go.ensures.loses),
        refl,
        (refl, refl, c.let_go.ensures.lightens),
      );
      gone = c.let_go.ensures.gone;
      stays = refl;
      same = refl;
    })

pub put_value-requires-clause-light : goal.put_value-requires-clause-light
put_value-requires-clause-light g c = (not_own c.is_own.ensures c.if-is_own.false).1

pub returns-clause-puts : goal.returns-clause-puts
returns-clause-puts g c =
    let same = same_changing c.args.id c.self.inside.flights c.outdate.new.self c.outdate.result c.outdate.ensures in
    rw (← c.self.view_is)
    (puts_by g.R.RowRoom.shows c.args.id c.args.stamp c.args.value c.args.weight c.args.bound _ c.args.had.now _
    c.put_value.new.had c.outdate.result c.put_value.result c.outdate.ensures
    (not_own (rw same at c.is_own.ensures) c.if-is_own.false) c.put_value.ensures.same c.put_value.ensures.puts)
