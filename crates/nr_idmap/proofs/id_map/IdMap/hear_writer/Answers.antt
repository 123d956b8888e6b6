use Rattle.nr_idmap.proofs.Answering.{heard_tied}
use Rattle.nr_idmap.proofs.id_map.IdMap.hear_writer.Goals as goal

pub invariant_of-writer : goal.invariant_of-writer
invariant_of-writer c =
    (heard_tied c.writer.invariant c.hear_writer.ensures.learns c.hear_clerk.ensures.hears).0

pub returns-clause-owes : goal.returns-clause-owes
returns-clause-owes c = rw (← c.writer.view_is)
    (heard_tied c.writer.invariant c.hear_writer.ensures.learns c.hear_clerk.ensures.hears).1
