use Rattle.std.proofs.Common.{None, Some, inl, inr, refl}
use Rattle.nr_cache.proofs.Seen.{lands_by, not_heavy}
use Rattle.nr_cache.proofs.store.Store.land.Goals as goal

pub returns-in_default-clause-lands : goal.returns-in_default-clause-lands
returns-in_default-clause-lands g c =
    rw (← c.self.view_is)
    (record {
      found = None;
      ends = c.in_default.ensures.ends;
      why = inl (inl refl, refl, refl);
      stays = refl;
      same = refl;
    })

pub returns-in-Outdated-clause-lands : goal.returns-in-Outdated-clause-lands
returns-in-Outdated-clause-lands g c =
    rw (← c.self.view_is)
    (record {
      found = Some c.in-Some.flight;
      ends = c.in-Some.ensures.ends;
      why = inl (inr (c.in-Some.flight, refl, inl c.in-Outdated.is), refl, refl);
      stays = refl;
      same = refl;
    })

pub returns-then-is_too_heavy-clause-lands : goal.returns-then-is_too_heavy-clause-lands
returns-then-is_too_heavy-clause-lands g c =
    let heavy = c.is_too_heavy.ensures.0 c.if-is_too_heavy.true in
    rw (← c.self.view_is)
    (record {
      found = Some c.in-Some.flight;
      ends = c.in-Some.ensures.ends;
      why = inl (inr (c.in-Some.flight, refl, inr (c.in-Hold.is, heavy)), refl, refl);
      stays = refl;
      same = refl;
    })

pub put_value-requires-clause-light : goal.put_value-requires-clause-light
put_value-requires-clause-light g c = not_heavy c.is_too_heavy.ensures c.if-is_too_heavy.false

pub returns-clause-lands : goal.returns-clause-lands
returns-clause-lands g c =
    rw (← c.self.view_is)
    (lands_by g.R.RowRoom.shows c.args.number c.args.stamp c.args.value c.args.weight c.args.bound _ c.args.had.now _
    c.put_value.new.had c.in-Some.flight c.put_value.result c.in-Some.ensures.ends c.in-Hold.is
    (not_heavy c.is_too_heavy.ensures c.if-is_too_heavy.false) c.put_value.ensures.same c.put_value.ensures.puts)
