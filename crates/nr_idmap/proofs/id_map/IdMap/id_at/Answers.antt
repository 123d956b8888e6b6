use Rattle.nr_idmap.proofs.Answering.{names_leave, stays_so}
use Rattle.nr_idmap.proofs.Ties.{clerk_tied}
use Rattle.nr_idmap.proofs.id_map.IdMap.id_at.Goals as goal

pub returns-clause-stays : goal.returns-clause-stays
returns-clause-stays c = stays_so c.writer.view_is
    (clerk_tied c.writer.invariant (names_leave c.args.way _ _ c.id_of.result c.id_of.ensures.answer))

pub invariant_of-writer : goal.invariant_of-writer
invariant_of-writer c =
    (clerk_tied c.writer.invariant (names_leave c.args.way _ _ c.id_of.result c.id_of.ensures.answer)).0
