use Rattle.nr_idmap.proofs.Asking.{learnt_tied}
use Rattle.nr_idmap.proofs.id_map.IdMap.slot_counts.Goals as goal

pub invariant_of-writer : goal.invariant_of-writer
invariant_of-writer c = (learnt_tied c.writer.invariant c.slot_counts.ensures.learns).0

pub returns-clause-counts : goal.returns-clause-counts
returns-clause-counts c = rw (← c.writer.view_is) c.slot_counts.ensures

pub returns-clause-owes : goal.returns-clause-owes
returns-clause-owes c =
    rw (← c.writer.view_is) (learnt_tied c.writer.invariant c.slot_counts.ensures.learns).1
