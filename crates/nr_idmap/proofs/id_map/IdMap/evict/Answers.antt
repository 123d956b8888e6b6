use Rattle.nr_idmap.proofs.Ties.{searched}
use Rattle.nr_idmap.proofs.WayCalls.{evict_nothing, evicted_way}
use Rattle.nr_idmap.proofs.id_map.IdMap.evict.Goals as goal

pub invariant_of-writer : goal.invariant_of-writer
invariant_of-writer c = (searched c.writer.invariant c.args.id _ c.way_of.ensures.answer).0

pub returns-in_default-clause-owes : goal.returns-in_default-clause-owes
returns-in_default-clause-owes c =
    rw (← c.writer.view_is) (searched c.writer.invariant c.args.id _ c.way_of.ensures.answer).1

pub invariant_of-writer-in-Evicted : goal.invariant_of-writer-in-Evicted
invariant_of-writer-in-Evicted c =
    (evicted_way c.writer.invariant c.args.id c.in-Some.way c.in-Some.ensures.answer c.unname.ensures.answer
    c.in-Evicted.ensures).0

pub invariant_of-writer-in-Nothing : goal.invariant_of-writer-in-Nothing
invariant_of-writer-in-Nothing c =
    (evict_nothing c.writer.invariant c.args.id c.in-Some.way c.in-Some.ensures.answer c.in-Nothing.ensures).0

pub returns-in-Evicted-clause-owes : goal.returns-in-Evicted-clause-owes
returns-in-Evicted-clause-owes c = rw (← c.writer.view_is)
    (evicted_way c.writer.invariant c.args.id c.in-Some.way c.in-Some.ensures.answer c.unname.ensures.answer
    c.in-Evicted.ensures).1

pub returns-in-Nothing-clause-owes : goal.returns-in-Nothing-clause-owes
returns-in-Nothing-clause-owes c = rw (← c.writer.view_is)
    (evict_nothing c.writer.invariant c.args.id c.in-Some.way c.in-Some.ensures.answer c.in-Nothing.ensures).1
