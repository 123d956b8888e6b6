use Rattle.std.proofs.Common.{◌≡◌, ℕ, Some, arith, ap, sym, subst, ◌∙◌}
use Rattle.nr_idmap.specs.Keepers.{IdTable}
use Rattle.nr_cache.specs.Places.{IsOther}
use Rattle.nr_cache.specs.Stamps.{GoesNext, way_after}
use Rattle.nr_cache.proofs.Ways.{none_left}
use Rattle.nr_cache.proofs.Filled.{evicted_fewer}
use Rattle.nr_cache.proofs.Gone.{looked_names}
use Rattle.nr_cache.proofs.Looking.{looks_leave}
use Rattle.nr_cache.proofs.Weighing.{evicted_lightens, lightens_same, lightens_then, only_still}
use Rattle.nr_cache.proofs.firsts.take_first.Goals as goal

pub look_at-seen-requires-clause-owes : goal.look_at-seen-requires-clause-owes
look_at-seen-requires-clause-owes c way =
    (looks_leave c.is_tied.ensures c.first_to_go-named.ensures.looks).owes way ∙ c.requires.owes way

pub look_at-seen-requires-clause-values : goal.look_at-seen-requires-clause-values
look_at-seen-requires-clause-values c =
    (looks_leave c.is_tied.ensures c.first_to_go-named.ensures.looks).brings c.requires.values

pub returns-in-None-clause-owes : goal.returns-in-None-clause-owes
returns-in-None-clause-owes c way =
    (looks_leave c.is_tied.ensures c.first_to_go-named.ensures.looks).owes way ∙ c.requires.owes way

pub returns-in-None-clause-values : goal.returns-in-None-clause-values
returns-in-None-clause-values c =
    (looks_leave c.is_tied.ensures c.first_to_go-named.ensures.looks).brings c.requires.values

pub returns-in-None-clause-fewer : goal.returns-in-None-clause-fewer
returns-in-None-clause-fewer c =
    omega (arith, (looks_leave c.is_tied.ensures c.first_to_go-named.ensures.looks).keeps.count)

pub returns-in-None-clause-only : goal.returns-in-None-clause-only
returns-in-None-clause-only c =
    let leaves = looks_leave c.is_tied.ensures c.first_to_go-named.ensures.looks in
    rw c.first_to_go-named.ensures.weights
    (λ way none. c.requires.only way (sym (leaves.keeps.sets way) ∙ none))

pub returns-in-None-clause-takes : goal.returns-in-None-clause-takes
returns-in-None-clause-takes c =
    let keys = ap (λ (t : IdTable). t.map.shape.keys) c.first_to_go-named.ensures.own in
    let all = c.ways-nobody.ensures ∙ sym keys in
    record {
      looks = c.first_to_go-named.ensures.looks;
      gone = none_left c.ways-nobody.result c.is_tied-2.ensures all c.in-None.ensures.none;
      hand = subst (λ (keys : ℕ). c.first_to_go-named.new.self.hand ≡ way_after c.args.limit.now.hand 8 keys) (sym keys)
          c.in-None.ensures.past;
      weighs = c.first_to_go-named.ensures.weights;
    }

pub unreachable-requires-then-not-take_value : goal.unreachable-requires-then-not-take_value
unreachable-requires-then-not-take_value c =
    c.if-not-take_value.ensures.takes.0 _ c.in-Some-seen.ensures.looks.3

pub returns-clause-takes : goal.returns-clause-takes
returns-clause-takes c =
    let first = c.in-Some.ensures.some in
    let victim = c.in-Some.victim in
    let looks = c.in-Some-seen.ensures.looks in
    let takes = c.if-not-take_value.ensures.takes in
    let mid = c.first_to_go-named.new.writer in
    let seen = c.look_at-seen.new.writer in
    let keys = c.ways-nobody.ensures ∙ sym (ap (λ (t : IdTable). t.map.shape.keys) c.first_to_go-named.ensures.own) in
    let leaves = looks_leave c.is_tied.ensures c.first_to_go-named.ensures.looks in
    let gone = evicted_fewer c.is_tied-3.ensures takes.1.1 in
    let names = looked_names victim.id mid seen.clerk (Some looks.0) c.is_tied-2.ensures looks.1.0 in
    record {
      mid = mid;
      looks = c.first_to_go-named.ensures.looks;
      way = victim.way;
      has = subst (λ (taken : ℕ). IsOther taken victim.way victim.id mid) keys first.0;
      next = subst (λ (taken : ℕ). GoesNext c.args.bound taken c.args.limit.now.hand c.first_to_go-named.new.self.hand
          victim.way mid) keys first.1;
      seen = seen;
      tells = looks;
      takes = takes;
      lightens = lightens_then
          (lightens_same c.args.writer.now seen (λ way. c.look_at-seen.ensures.stay way ∙ leaves.keeps.sets way))
          (rw (c.leave.ensures, c.first_to_go-named.ensures.weights)
          (evicted_lightens victim.way c.is_tied-3.ensures takes.1.1 first.0.2 (names victim.way ∙ first.0.1)));
      gone = c.take_value.ensures.gone;
      fewer = omega (arith, leaves.keeps.count, c.look_at-seen.ensures.fewer, gone);
    }

pub returns-clause-only : goal.returns-clause-only
returns-clause-only c = only_still c.requires.only (returns-clause-takes c).lightens

pub returns-clause-fewer : goal.returns-clause-fewer
returns-clause-fewer c = omega (arith, (returns-clause-takes c).fewer)
