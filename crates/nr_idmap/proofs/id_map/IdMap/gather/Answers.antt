use Rattle.nr_idmap.proofs.Asking.{learnt_tied}
use Rattle.nr_idmap.proofs.id_map.IdMap.gather.Goals as goal

pub invariant_of-writer : goal.invariant_of-writer
invariant_of-writer c = (learnt_tied c.writer.invariant c.gather.ensures.of_reader.learns).0

pub returns-clause-owes : goal.returns-clause-owes
returns-clause-owes c =
    rw (← c.writer.view_is) (learnt_tied c.writer.invariant c.gather.ensures.of_reader.learns).1
