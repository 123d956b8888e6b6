use Rattle.nr_board.proofs.Holding.{moves_anew, moves_on}
use Rattle.nr_board.proofs.Looks.{filled_so}
use Rattle.nr_board.proofs.board.Board.move_to.Goals as goal

pub returns-then-parts : goal.returns-then-parts
returns-then-parts c =
    moves_on c.args.self.now c.args.key c.args.word (filled_so c.args.word c.parts.ensures.parts c.if-parts.true)
    c.args.seat.now c.hold_named.new.seat c.hold_named.result c.requires.holds.0 c.hold_named.ensures

pub returns : goal.returns
returns c =
    moves_anew c.args.self.now c.args.key c.args.word c.args.own.index
    (filled_so c.args.word c.parts.ensures.parts c.if-parts.false) c.args.seat.now c.clear.new.seat
    c.hold_key.new.seat c.hold_key.result c.requires.holds.0
    c.clear.ensures.word c.clear.ensures.rests c.clear.ensures.marks c.hold_key.ensures
