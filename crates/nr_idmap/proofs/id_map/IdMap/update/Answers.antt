use Rattle.nr_idmap.proofs.Ties.{searched}
use Rattle.nr_idmap.proofs.WayCalls.{update_left}
use Rattle.nr_idmap.proofs.id_map.IdMap.update.Goals as goal
use Rattle.nr_idmap.proofs.id_map.IdMap.update.Goals.{in-Ok, in-Err}

pub invariant_of-writer : goal.invariant_of-writer
invariant_of-writer c = (searched c.writer.invariant c.args.id _ c.way_of.ensures.answer).0

pub returns-in_default-clause-owes : goal.returns-in_default-clause-owes
returns-in_default-clause-owes c =
    rw (← c.writer.view_is) (searched c.writer.invariant c.args.id _ c.way_of.ensures.answer).1

pub invariant_of-writer-2 : goal.invariant_of-writer-2
invariant_of-writer-2 c =
    (update_left c.writer.invariant c.args.id c.in-Some.way c.in-Some.ensures.answer c.self.inside.map.shape.rows
    c.args.deltas.now c.update_rows.result c.requires.deltas c.update_rows.ensures).0

pub returns-clause-updates : goal.returns-clause-updates
returns-clause-updates c = elim c.match-update_rows.branch [
  | in-Ok v ↦ rw (← c.writer.view_is, ← c.self.view_is, v.result-is)
      (c.in-Some.way, c.in-Some.ensures.answer, v.in-Ok.ensures)
  | in-Err v ↦ rw (← c.writer.view_is, ← c.self.view_is, v.result-is)
      (c.in-Some.way, c.in-Some.ensures.answer, v.in-Err.ensures)
]

pub returns-clause-owes : goal.returns-clause-owes
returns-clause-owes c = rw (← c.writer.view_is)
    (update_left c.writer.invariant c.args.id c.in-Some.way c.in-Some.ensures.answer c.self.inside.map.shape.rows
    c.args.deltas.now c.update_rows.result c.requires.deltas c.update_rows.ensures).1
