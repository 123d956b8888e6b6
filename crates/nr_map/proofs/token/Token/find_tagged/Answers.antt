use Rattle.std.proofs.Common.{ap, subst, sym}
use Rattle.nr_map.specs.declared.token.Token.{Token}
use Rattle.nr_map.proofs.FirstRows.{has_no_tag, has_tag}
use Rattle.nr_map.proofs.token.Token.find_tagged.Goals.{then-begins_with, else-begins_with}
use Rattle.nr_map.proofs.token.Token.find_tagged.Goals as goal

pub returns-clause-finds : goal.returns-clause-finds
returns-clause-finds g c = elim c.if-begins_with.branch [
  | then-begins_with w ↦ rw w.answer-is
      (has_tag c.begins_with.new.self.seat c.if-begins_with.self.seat c.let_go.new.seat c.requires.idle.own
      (rw c.map.view_is at c.in-Some.ensures) c.begins_with.ensures.rests c.begins_with.ensures.marks
      c.let_go.ensures.rests c.let_go.ensures.marks
      g.R.RowRoom.shows c.args.tag w.copy_from.new.seat c.args.rows.now c.if-begins_with.rows
      (c.begins_with.ensures.begins.0 w.if-begins_with.true) c.begins_with.ensures.same
      (subst (λ room. g.R.RowRoom.shows room _) (sym w.rows-is) w.copy_from.ensures.rows)
      w.copy_from.ensures.rests w.copy_from.ensures.marks (ap (λ (t : Token). t.seat) w.self-is))
  | else-begins_with w ↦ rw w.answer-is
      (has_no_tag c.begins_with.new.self.seat c.if-begins_with.self.seat c.let_go.new.seat c.requires.idle.own
      (rw c.map.view_is at c.in-Some.ensures) c.begins_with.ensures.rests c.begins_with.ensures.marks
      c.let_go.ensures.rests c.let_go.ensures.marks g.R.RowRoom.shows c.args.tag c.args.rows.now c.if-begins_with.rows
      (λ has. let yes = c.begins_with.ensures.begins.1 has in let no = w.if-begins_with.false in absurd (cc))
      (ap (λ (t : Token). t.seat) w.self-is) w.rows-is)
]
