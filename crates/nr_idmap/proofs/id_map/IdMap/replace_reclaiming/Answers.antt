use Rattle.std.proofs.Common.{List, ◌∷◌, subst, ◌∙◌, Result, Ok, Err}
use Rattle.nr_model.specs.declared.rows.Row.{Row}
use Rattle.nr_board.specs.declared.answers.Reclaimed.{Reclaimed}
use Rattle.nr_board.specs.declared.answers.ReplaceFault.{ReplaceFault}
use Rattle.nr_board.specs.Reclaiming.{ReplacesReclaiming}
use Rattle.nr_idmap.specs.Tags.{tag_of}
use Rattle.nr_idmap.proofs.Giving.{replace_gives}
use Rattle.nr_idmap.proofs.Ties.{searched}
use Rattle.nr_idmap.proofs.id_map.IdMap.replace_reclaiming.Given as given
use Rattle.nr_idmap.proofs.id_map.IdMap.replace_reclaiming.Goals as goal
use Rattle.nr_idmap.proofs.id_map.IdMap.replace_reclaiming.Goals.{in-Ok, in-Err}

pub invariant_of-writer : goal.invariant_of-writer
invariant_of-writer g c = (searched c.writer.invariant c.args.id _ c.way_of.ensures.answer).0

pub returns-in_default-clause-owes : goal.returns-in_default-clause-owes
returns-in_default-clause-owes g c =
    rw (← c.writer.view_is) (searched c.writer.invariant c.args.id _ c.way_of.ensures.answer).1

put : (g : given.Over) (c : goal.Joined-replace_reclaiming g) (r : Result Reclaimed ReplaceFault) →
    ReplacesReclaiming g.R.RowRoom.shows c.in-Some.way c.as_slice.result.now c.writer.inside.writer c.args.had.now
    c.replace_reclaiming.new.writer c.replace_reclaiming.new.had r →
    ReplacesReclaiming g.R.RowRoom.shows c.in-Some.way (tag_of c.args.id ∷ c.args.rows.now) c.writer.inside.writer
    c.args.had.now c.replace_reclaiming.new.writer c.replace_reclaiming.new.had r
put g c r h =
    subst (λ (l : List Row). ReplacesReclaiming g.R.RowRoom.shows c.in-Some.way l c.writer.inside.writer c.args.had.now
    c.replace_reclaiming.new.writer c.replace_reclaiming.new.had r)
    (c.as_slice.ensures.value ∙ c.put_tagged.ensures.sorted) h

pub invariant_of-writer-2 : goal.invariant_of-writer-2
invariant_of-writer-2 g c =
    (replace_gives _ _ _ c.writer.invariant c.args.id c.in-Some.way c.in-Some.ensures.answer c.requires.id
    c.args.rows.now c.replace_reclaiming.result (put g c c.replace_reclaiming.result c.replace_reclaiming.ensures)).0

pub returns-clause-replaces : goal.returns-clause-replaces
returns-clause-replaces g c = elim c.match-replace_reclaiming.branch [
  | in-Ok v ↦ rw (← c.writer.view_is, v.result-is)
      (c.in-Some.way, c.in-Some.ensures.answer, put g c (Ok v.in-Ok.given) v.in-Ok.ensures)
  | in-Err v ↦ rw (← c.writer.view_is, v.result-is)
      (c.in-Some.way, c.in-Some.ensures.answer, put g c (Err v.in-Err.fault) v.in-Err.ensures)
]

pub returns-clause-owes : goal.returns-clause-owes
returns-clause-owes g c = rw (← c.writer.view_is)
    (replace_gives _ _ _ c.writer.invariant c.args.id c.in-Some.way c.in-Some.ensures.answer c.requires.id
    c.args.rows.now c.replace_reclaiming.result (put g c c.replace_reclaiming.result c.replace_reclaiming.ensures)).1
