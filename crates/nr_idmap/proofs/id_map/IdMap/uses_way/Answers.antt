use Rattle.nr_ids.proofs.Calls.{takes_leave}
use Rattle.nr_idmap.proofs.Answering.{stays_so}
use Rattle.nr_idmap.proofs.Ties.{clerk_tied}
use Rattle.nr_idmap.proofs.id_map.IdMap.uses_way.Goals as goal

pub invariant_of-writer : goal.invariant_of-writer
invariant_of-writer c =
    (clerk_tied c.writer.invariant (takes_leave _ _ _ c.take_mark.result c.take_mark.ensures.takes)).0

pub returns-clause-stays : goal.returns-clause-stays
returns-clause-stays c = stays_so c.writer.view_is
    (clerk_tied c.writer.invariant (takes_leave _ _ _ c.take_mark.result c.take_mark.ensures.takes))
