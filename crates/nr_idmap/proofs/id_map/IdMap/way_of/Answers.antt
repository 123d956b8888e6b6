use Rattle.nr_idmap.proofs.Answering.{stays_so}
use Rattle.nr_idmap.proofs.Ties.{searched}
use Rattle.nr_idmap.proofs.id_map.IdMap.way_of.Goals as goal

pub invariant_of-writer : goal.invariant_of-writer
invariant_of-writer c = (searched c.writer.invariant c.args.id _ c.way_of.ensures.answer).0

pub returns-clause-stays : goal.returns-clause-stays
returns-clause-stays c =
    stays_so c.writer.view_is (searched c.writer.invariant c.args.id _ c.way_of.ensures.answer)
