use Rattle.std.proofs.Common.{List, ◌∷◌, subst, ◌∙◌, Result, Ok, Err}
use Rattle.nr_model.specs.declared.rows.Row.{Row}
use Rattle.nr_board.specs.declared.answers.ReplaceFault.{ReplaceFault}
use Rattle.nr_board.specs.WriterAnswers.{ReplacesKey}
use Rattle.nr_idmap.specs.Tags.{tag_of}
use Rattle.nr_idmap.proofs.Ties.{searched}
use Rattle.nr_idmap.proofs.WayCalls.{replace_left}
use Rattle.nr_idmap.proofs.id_map.IdMap.replace.Goals as goal
use Rattle.nr_idmap.proofs.id_map.IdMap.replace.Goals.{in-Ok, in-Err}

pub invariant_of-writer : goal.invariant_of-writer
invariant_of-writer c = (searched c.writer.invariant c.args.id _ c.way_of.ensures.answer).0

pub returns-in_default-clause-owes : goal.returns-in_default-clause-owes
returns-in_default-clause-owes c =
    rw (← c.writer.view_is) (searched c.writer.invariant c.args.id _ c.way_of.ensures.answer).1

put : (c : goal.Joined-replace_rows) (r : Result (Unit {0}) ReplaceFault) →
    ReplacesKey c.in-Some.way c.as_slice.result.now c.writer.inside.writer c.replace_rows.new.writer r →
    ReplacesKey c.in-Some.way (tag_of c.args.id ∷ c.args.rows.now) c.writer.inside.writer c.replace_rows.new.writer r
put c r h = subst (λ (l : List Row). ReplacesKey c.in-Some.way l c.writer.inside.writer c.replace_rows.new.writer r)
    (c.as_slice.ensures.value ∙ c.put_tagged.ensures.sorted) h

pub invariant_of-writer-2 : goal.invariant_of-writer-2
invariant_of-writer-2 c =
    (replace_left c.writer.invariant c.args.id c.in-Some.way c.in-Some.ensures.answer c.requires.id c.args.rows.now
    c.replace_rows.result (put c c.replace_rows.result c.replace_rows.ensures)).0

pub returns-clause-replaces : goal.returns-clause-replaces
returns-clause-replaces c = elim c.match-replace_rows.branch [
  | in-Ok v ↦ rw (← c.writer.view_is, v.result-is)
      (c.in-Some.way, c.in-Some.ensures.answer, put c (Ok tt) v.in-Ok.ensures)
  | in-Err v ↦ rw (← c.writer.view_is, v.result-is)
      (c.in-Some.way, c.in-Some.ensures.answer, put c (Err v.in-Err.fault) v.in-Err.ensures)
]

pub returns-clause-owes : goal.returns-clause-owes
returns-clause-owes c = rw (← c.writer.view_is)
    (replace_left c.writer.invariant c.args.id c.in-Some.way c.in-Some.ensures.answer c.requires.id c.args.rows.now
    c.replace_rows.result (put c c.replace_rows.result c.replace_rows.ensures)).1
