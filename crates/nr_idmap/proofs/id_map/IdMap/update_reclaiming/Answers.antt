use Rattle.nr_idmap.proofs.Giving.{update_gives}
use Rattle.nr_idmap.proofs.Ties.{searched}
use Rattle.nr_idmap.proofs.id_map.IdMap.update_reclaiming.Goals as goal
use Rattle.nr_idmap.proofs.id_map.IdMap.update_reclaiming.Goals.{in-Ok, in-Err}

pub invariant_of-writer : goal.invariant_of-writer
invariant_of-writer g c = (searched c.writer.invariant c.args.id _ c.way_of.ensures.answer).0

pub returns-in_default-clause-owes : goal.returns-in_default-clause-owes
returns-in_default-clause-owes g c =
    rw (← c.writer.view_is) (searched c.writer.invariant c.args.id _ c.way_of.ensures.answer).1

pub invariant_of-writer-2 : goal.invariant_of-writer-2
invariant_of-writer-2 g c =
    (update_gives _ _ _ c.writer.invariant c.args.id c.in-Some.way c.in-Some.ensures.answer
    c.self.inside.map.shape.rows c.args.deltas.now c.update_reclaiming.result c.requires.deltas
    c.update_reclaiming.ensures).0

pub returns-clause-updates : goal.returns-clause-updates
returns-clause-updates g c = elim c.match-update_reclaiming.branch [
  | in-Ok v ↦ rw (← c.writer.view_is, ← c.self.view_is, v.result-is)
      (c.in-Some.way, c.in-Some.ensures.answer, v.in-Ok.ensures)
  | in-Err v ↦ rw (← c.writer.view_is, ← c.self.view_is, v.result-is)
      (c.in-Some.way, c.in-Some.ensures.answer, v.in-Err.ensures)
]

pub returns-clause-owes : goal.returns-clause-owes
returns-clause-owes g c = rw (← c.writer.view_is)
    (update_gives _ _ _ c.writer.invariant c.args.id c.in-Some.way c.in-Some.ensures.answer
    c.self.inside.map.shape.rows c.args.deltas.now c.update_reclaiming.result c.requires.deltas
    c.update_reclaiming.ensures).1
