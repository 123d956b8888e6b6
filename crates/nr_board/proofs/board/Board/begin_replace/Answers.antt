use Rattle.nr_model.specs.declared.calls.Reply.TheVariants as reply
use Rattle.nr_board.proofs.Looks.{has_looked, replace_dropped, replace_settles}
use Rattle.nr_board.proofs.WriterCalls.{look_ends, look_settles}
use Rattle.nr_board.proofs.board.Board.begin_replace.Goals as goal

pub returns-then-not-parts : goal.returns-then-not-parts
returns-then-not-parts g c =
    let looks = has_looked c.requires.rests c.requires.own c.requires.call c.look.ensures in
    let told = look_ends looks reply.Dropped (replace_dropped looks c.parts.ensures.parts c.if-not-parts.true) in
    (told.0, told.1, told.1.1.2)

pub returns : goal.returns
returns g c =
    let looks = has_looked c.requires.rests c.requires.own c.requires.call c.look.ensures in
    look_settles looks (replace_settles looks c.parts.ensures.parts c.if-not-parts.false)
