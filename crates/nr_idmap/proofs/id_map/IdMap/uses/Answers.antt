use Rattle.nr_ids.proofs.Calls.{takes_leave}
use Rattle.nr_idmap.proofs.Answering.{stays_so, then_left}
use Rattle.nr_idmap.proofs.Ties.{searched}
use Rattle.nr_idmap.proofs.id_map.IdMap.uses.Goals as goal

pub invariant_of-writer : goal.invariant_of-writer
invariant_of-writer c = (searched c.writer.invariant c.args.id _ c.way_of.ensures.answer).0

pub returns-in_default-clause-stays : goal.returns-in_default-clause-stays
returns-in_default-clause-stays c =
    stays_so c.writer.view_is (searched c.writer.invariant c.args.id _ c.way_of.ensures.answer)

pub invariant_of-writer-2 : goal.invariant_of-writer-2
invariant_of-writer-2 c =
    (then_left c.writer.inside.clerk (searched c.writer.invariant c.args.id _ c.way_of.ensures.answer)
    (takes_leave c.in-Some.way _ _ c.take_mark.result c.take_mark.ensures.takes)).0

pub returns-clause-stays : goal.returns-clause-stays
returns-clause-stays c = stays_so c.writer.view_is
    (then_left c.writer.inside.clerk (searched c.writer.invariant c.args.id _ c.way_of.ensures.answer)
    (takes_leave c.in-Some.way _ _ c.take_mark.result c.take_mark.ensures.takes))
