use Rattle.nr_cache.proofs.WriterCalls.{learnt_keeps, writes}
use Rattle.nr_cache.proofs.counts.count_values.Goals as goal

pub returns-clause-values : goal.returns-clause-values
returns-clause-values c = rw c.slot_counts.ensures.counts.learns.mine c.requires.values

pub returns-clause-same : goal.returns-clause-same
returns-clause-same c = (learnt_keeps (writes c.is_tied.ensures) c.slot_counts.ensures.counts.learns).count

pub returns-clause-stay : goal.returns-clause-stay
returns-clause-stay c = (learnt_keeps (writes c.is_tied.ensures) c.slot_counts.ensures.counts.learns).sets
