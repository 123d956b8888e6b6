use Rattle.std.proofs.Common.{◌∙◌}
use Rattle.nr_idmap.proofs.Answering.{copied_rows, look_left, look_tagged}
use Rattle.nr_idmap.proofs.Ties.{searched}
use Rattle.nr_idmap.proofs.id_map.IdMap.look.Goals as goal
use Rattle.nr_idmap.proofs.id_map.IdMap.look.Goals.{in-Hole, in-Rows}

pub invariant_of-writer : goal.invariant_of-writer
invariant_of-writer g c = (searched c.writer.invariant c.args.id _ c.way_of.ensures.answer).0

pub returns-in_default-clause-owes : goal.returns-in_default-clause-owes
returns-in_default-clause-owes g c =
    rw (← c.writer.view_is) (searched c.writer.invariant c.args.id _ c.way_of.ensures.answer).1

pub invariant_of-writer-2 : goal.invariant_of-writer-2
invariant_of-writer-2 g c = elim c.match-look_into.branch [
  | in-Hole v ↦ (look_left c.writer.invariant c.args.id c.in-Some.way c.in-Some.ensures.answer v.in-Hole.ensures.0).0
  | in-Rows v ↦ (look_left c.writer.invariant c.args.id c.in-Some.way c.in-Some.ensures.answer v.in-Rows.ensures.1).0
]

pub returns-clause-owes : goal.returns-clause-owes
returns-clause-owes g c = elim c.match-look_into.branch [
  | in-Hole v ↦ rw (← c.writer.view_is)
      (look_left c.writer.invariant c.args.id c.in-Some.way c.in-Some.ensures.answer v.in-Hole.ensures.0).1
  | in-Rows v ↦ rw (← c.writer.view_is)
      (look_left c.writer.invariant c.args.id c.in-Some.way c.in-Some.ensures.answer v.in-Rows.ensures.1).1
]

pub returns-clause-looks : goal.returns-clause-looks
returns-clause-looks g c = elim c.match-look_into.branch [
  | in-Hole v ↦ rw (← c.writer.view_is, v.result-is)
      (c.in-Some.way, c.in-Some.ensures.answer, v.in-Hole.ensures.0, v.in-Hole.ensures.1, v.rows-is)
  | in-Rows v ↦
      let tag = look_tagged c.writer.invariant c.args.id c.in-Some.way c.in-Some.ensures.answer v.in-Rows.ensures.1 in
      let copied = copied_rows g.R.RowRoom.shows c.args.id v.in-Rows.ensures.0 c.args.rows.now v.copy_behind.new.rows
      tag v.copy_behind.result
      (rw (v.as_slice.ensures.value ∙ v.in-Rows.ensures.3) at v.copy_behind.ensures.copies) in
      rw (← c.writer.view_is, v.result-is, v.rows-is) (
        c.in-Some.way,
        copied.0,
        (c.in-Some.ensures.answer, rw copied.1 at v.in-Rows.ensures.1, v.in-Rows.ensures.2),
        copied.2,
      )
]
