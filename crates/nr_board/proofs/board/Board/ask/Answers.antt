use Rattle.nr_board.proofs.BoardPlaces.{key_in, key_near, same_id, stands}
use Rattle.nr_board.proofs.ReaderSeats.{asked_seat}
use Rattle.nr_board.proofs.ReaderSteps.{asks_so}
use Rattle.nr_board.proofs.board.Board.ask.Goals as goal

pub fetch_or-requires : goal.fetch_or-requires
fetch_or-requires c =
    let shared = c.self.inside.table.shared in
    let board = stands c.self.view_is c.self.invariant in
    let seat = c.args.seat.now in (
      same_id c.requires.reader.own c.self.view_is,
      key_in board c.requires.key,
      asks_so shared.key.shape shared.table_id.slots seat.id seat.me c.args.key
          (key_near board c.requires.key) c.requires.reader.idle,
    )

pub returns : goal.returns
returns c =
    let told
    = asked_seat c.args.self.now c.args.seat.now c.fetch_or.new.seat c.fetch_or.ensures.0 c.args.key
    c.fetch_or.result
    c.requires.reader c.fetch_or.ensures.2 in
    record { reader = told.0; gains = told.1; marks = c.fetch_or.ensures.2.marks }
