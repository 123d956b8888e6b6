use Rattle.nr_board.proofs.Searching.{takes_fresh}
use Rattle.nr_board.proofs.board.Board.take_slot.Goals as goal

pub returns-in-Some-clause-takes : goal.returns-in-Some-clause-takes
returns-in-Some-clause-takes g c =
    let map = c.args.self.now in
    let lists = c.args.lists.now in
    let seat = c.args.seat.now in
    let fresh = c.in-Some.ensures in
    rw c.shape.ensures
    (takes_fresh map g.G.BegunCall.call c.args.rows.now lists c.take_fresh.new.self seat c.in-Some.slot
    c.requires.settles fresh.0 fresh.1 fresh.2)
