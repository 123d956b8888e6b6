use Rattle.nr_cache.proofs.Looking.{evict_brings}
use Rattle.nr_cache.proofs.Filled.{evicted_fewer}
use Rattle.nr_cache.proofs.Gone.{has_value}
use Rattle.nr_cache.proofs.Placing.{not_nothing}
use Rattle.nr_cache.proofs.Weighing.{evicted_lightens, evicted_mine, only_still}
use Rattle.nr_cache.proofs.limits.take_other.Goals as goal

pub unreachable-requires : goal.unreachable-requires
unreachable-requires c =
    not_nothing c.is_tied.ensures c.is_tied-2.ensures c.requires.owes c.evict-answer.ensures.owes c.requires.other
    (rw c.in-Nothing.is at c.evict-answer.ensures.evicts)

pub returns-clause-values : goal.returns-clause-values
returns-clause-values c =
    evict_brings c.args.other.id c.args.writer.now c.evict-answer.new.writer c.evict-answer.result
    c.evict-answer.ensures.evicts c.requires.values

pub returns-clause-takes : goal.returns-clause-takes
returns-clause-takes c =
    let way = c.args.other.way in
    let (other, named, real) = c.requires.other in (
      has_value way c.named_is_owed_or_resident.ensures c.is_tied.ensures (c.requires.owes way other) real named,
      (rw c.in-Evicted.is at c.evict-answer.ensures.evicts),
      c.evict-answer.ensures.asker,
    )

pub returns-clause-lightens : goal.returns-clause-lightens
returns-clause-lightens c =
    rw c.leave.ensures
    (evicted_lightens c.args.other.way c.is_tied.ensures (returns-clause-takes c).1.1 c.requires.other.2
    c.requires.other.1)

pub returns-clause-only : goal.returns-clause-only
returns-clause-only c = only_still c.requires.only (returns-clause-lightens c)

pub returns-clause-mine : goal.returns-clause-mine
returns-clause-mine c = evicted_mine c.is_tied.ensures (returns-clause-takes c).1.1 c.requires.other

pub returns-clause-fewer : goal.returns-clause-fewer
returns-clause-fewer c = evicted_fewer c.is_tied.ensures (returns-clause-takes c).1.1
