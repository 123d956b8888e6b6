use Rattle.std.proofs.Common.{arith, sym, ◌∙◌}
use Rattle.nr_cache.proofs.Ways.{no_other}
use Rattle.nr_cache.proofs.Looking.{looks_leave}
use Rattle.nr_cache.proofs.Weighing.{lightens_same, lightens_then}
use Rattle.nr_cache.proofs.limits.Limit.let_one_go.Goals as goal

pub unreachable-requires : goal.unreachable-requires
unreachable-requires c =
    let leaves = looks_leave c.is_tied.ensures c.first_to_go-victim.ensures.looks in
    c.requires.some (λ other differs.
    sym (leaves.keeps.sets other)
    ∙ no_other c.args.way c.is_tied-2.ensures c.in_default.ensures.none other differs)

pub take_other-requires-clause-owes : goal.take_other-requires-clause-owes
take_other-requires-clause-owes c way other =
    (looks_leave c.is_tied.ensures c.first_to_go-victim.ensures.looks).owes way ∙ c.requires.owes way other

pub take_other-requires-clause-values : goal.take_other-requires-clause-values
take_other-requires-clause-values c =
    (looks_leave c.is_tied.ensures c.first_to_go-victim.ensures.looks).brings c.requires.values

pub take_other-requires-clause-only : goal.take_other-requires-clause-only
take_other-requires-clause-only c =
    let leaves = looks_leave c.is_tied.ensures c.first_to_go-victim.ensures.looks in
    rw c.first_to_go-victim.ensures.weights
    (λ way none. c.requires.only way (sym (leaves.keeps.sets way) ∙ none))

pub returns-clause-owes : goal.returns-clause-owes
returns-clause-owes c way =
    c.take_other.ensures.owes way ∙ (looks_leave c.is_tied.ensures c.first_to_go-victim.ensures.looks).owes way

pub returns-clause-goes : goal.returns-clause-goes
returns-clause-goes c =
    let leaves = looks_leave c.is_tied.ensures c.first_to_go-victim.ensures.looks in
    record {
      way = c.in-Some.victim.way;
      victim = c.in-Some.victim.id;
      mid = c.first_to_go-victim.new.writer;
      looks = c.first_to_go-victim.ensures.looks;
      has = c.in-Some.ensures.some.0;
      next = c.in-Some.ensures.some.1;
      takes = c.take_other.ensures.takes;
      lightens = lightens_then
          (lightens_same c.args.writer.now c.first_to_go-victim.new.writer leaves.keeps.sets)
          (rw c.first_to_go-victim.ensures.weights at c.take_other.ensures.lightens);
    }

pub returns-clause-mine : goal.returns-clause-mine
returns-clause-mine c =
    let leaves = looks_leave c.is_tied.ensures c.first_to_go-victim.ensures.looks in
    c.take_other.ensures.mine ∙ leaves.keeps.sets c.args.way

pub returns-clause-asker : goal.returns-clause-asker
returns-clause-asker c =
    c.take_other.ensures.takes.2 ∙ (looks_leave c.is_tied.ensures c.first_to_go-victim.ensures.looks).asker

pub returns-clause-fewer : goal.returns-clause-fewer
returns-clause-fewer c =
    let leaves = looks_leave c.is_tied.ensures c.first_to_go-victim.ensures.looks in
    omega (arith, leaves.keeps.count, c.take_other.ensures.fewer)
