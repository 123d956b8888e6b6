use Rattle.std.proofs.Common.{◌∙◌, true, false}
use Rattle.nr_cache.proofs.Looking.{evict_brings}
use Rattle.nr_cache.proofs.Gone.{gone_after, takes_none, takes_some}
use Rattle.nr_cache.proofs.Quiets.{takes_quiet, quiet_fewer}
use Rattle.nr_cache.proofs.evictions.take_value.Goals as goal

pub returns-in-Evicted-clause-takes : goal.returns-in-Evicted-clause-takes
returns-in-Evicted-clause-takes c =
    takes_some c.named_is_owed_or_resident.ensures c.is_tied.ensures c.requires.owes c.requires.id
    c.evict-answer.ensures.asker (rw c.in-Evicted.is at c.evict-answer.ensures.evicts)

pub returns-in-Evicted-clause-gone : goal.returns-in-Evicted-clause-gone
returns-in-Evicted-clause-gone c =
    gone_after c.args.id true c.unnamed_is_absent.ensures c.is_tied.ensures c.is_tied-2.ensures
    (λ way. c.evict-answer.ensures.owes way ∙ c.requires.owes way) c.requires.id (returns-in-Evicted-clause-takes c)

pub returns-in-Evicted-clause-values : goal.returns-in-Evicted-clause-values
returns-in-Evicted-clause-values c =
    evict_brings c.args.id c.args.writer.now c.evict-answer.new.writer c.evict-answer.result
    c.evict-answer.ensures.evicts c.requires.values

pub returns-in-Evicted-clause-fewer : goal.returns-in-Evicted-clause-fewer
returns-in-Evicted-clause-fewer c =
    quiet_fewer c.evict-answer.new.writer c.is_tied.ensures
    (takes_quiet c.args.id c.args.writer.now c.evict-answer.new.writer true (returns-in-Evicted-clause-takes c))

pub returns-in-Nothing-clause-values : goal.returns-in-Nothing-clause-values
returns-in-Nothing-clause-values c =
    evict_brings c.args.id c.args.writer.now c.evict-answer.new.writer c.evict-answer.result
    c.evict-answer.ensures.evicts c.requires.values

pub returns-in-Nothing-clause-takes : goal.returns-in-Nothing-clause-takes
returns-in-Nothing-clause-takes c =
    takes_none c.unnamed_is_absent.ensures c.is_tied.ensures c.is_tied-2.ensures
    (λ way. c.evict-answer.ensures.owes way ∙ c.requires.owes way) c.requires.id c.evict-answer.ensures.asker
    (rw c.in-Nothing.is at c.evict-answer.ensures.evicts)

pub returns-in-Nothing-clause-gone : goal.returns-in-Nothing-clause-gone
returns-in-Nothing-clause-gone c =
    gone_after c.args.id false c.unnamed_is_absent.ensures c.is_tied.ensures c.is_tied-2.ensures
    (λ way. c.evict-answer.ensures.owes way ∙ c.requires.owes way) c.requires.id (returns-in-Nothing-clause-takes c)

pub returns-in-Nothing-clause-fewer : goal.returns-in-Nothing-clause-fewer
returns-in-Nothing-clause-fewer c =
    quiet_fewer c.evict-answer.new.writer c.is_tied.ensures
    (takes_quiet c.args.id c.args.writer.now c.evict-answer.new.writer false (returns-in-Nothing-clause-takes c))
