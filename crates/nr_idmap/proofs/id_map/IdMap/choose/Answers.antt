use Rattle.nr_ids.proofs.Calls.{chooses_leave}
use Rattle.nr_idmap.proofs.Answering.{names_leave, stays_so, then_left}
use Rattle.nr_idmap.proofs.Ties.{clerk_tied}
use Rattle.nr_idmap.proofs.id_map.IdMap.choose.Goals as goal

pub invariant_of-writer : goal.invariant_of-writer
invariant_of-writer c =
    (then_left c.writer.inside.clerk
    (clerk_tied c.writer.invariant (chooses_leave _ c.choose-way.result _ _ c.choose-way.ensures.chooses))
    (names_leave c.choose-way.result _ _ c.id_of.result c.id_of.ensures.answer)).0

pub returns-clause-stays : goal.returns-clause-stays
returns-clause-stays c = stays_so c.writer.view_is
    (then_left c.writer.inside.clerk
    (clerk_tied c.writer.invariant (chooses_leave _ c.choose-way.result _ _ c.choose-way.ensures.chooses))
    (names_leave c.choose-way.result _ _ c.id_of.result c.id_of.ensures.answer))
