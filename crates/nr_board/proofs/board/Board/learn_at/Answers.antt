use Rattle.nr_board.proofs.BoardPlaces.{key_in, key_near, same_id, stands}
use Rattle.nr_board.proofs.Gathering.{learned_numbers, learns_seat}
use Rattle.nr_board.proofs.Learning.{learns_so}
use Rattle.nr_board.proofs.board.Board.learn_at.Goals as goal

pub load-requires : goal.load-requires
load-requires c =
    let shared = c.self.inside.table.shared in
    let board = stands c.self.view_is c.self.invariant in
    let seat = c.args.seat.now in (
      same_id c.requires.own c.self.view_is,
      key_in board c.requires.key,
      learns_so shared.key.shape seat.id seat.me c.args.key (key_near board c.requires.key) c.requires.caller
          shared.table_id.slots,
    )

pub returns : goal.returns
returns c = let learned = c.load.ensures.2 in record {
  learns = learns_seat c.args.key c.load.result c.args.seat.now c.load.new.seat c.load.ensures.0 learned;
  role = (c.load.ensures.0, learned.role);
  says = learned.says;
  state = learned.state;
  numbers = λ desk is. learned_numbers c.args.self.now c.args.seat.now c.load.new.seat c.args.key c.load.result
      c.requires.own learned desk is;
}
