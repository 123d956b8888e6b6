use Rattle.nr_board.proofs.BoardPlaces.{key_in, key_near, same_id, stands}
use Rattle.nr_board.proofs.ReaderSeats.{held_seat, hole_seat}
use Rattle.nr_board.proofs.ReaderSteps.{arrives_so}
use Rattle.nr_board.proofs.board.Board.arrive.Goals as goal

pub fetch_add-requires : goal.fetch_add-requires
fetch_add-requires c =
    let shared = c.self.inside.table.shared in
    let board = stands c.self.view_is c.self.invariant in
    let seat = c.args.seat.now in (
      same_id c.requires.reader.own c.self.view_is,
      key_in board c.requires.key,
      arrives_so shared.key.shape shared.table_id.slots seat.id seat.me c.args.key
          (key_near board c.requires.key) c.requires.reader.idle
          c.requires.reader.silent,
    )

pub returns-clause-hole : goal.returns-clause-hole
returns-clause-hole c =
    hole_seat c.args.self.now c.args.seat.now c.fetch_add.new.seat c.fetch_add.ensures.0 c.args.key c.fetch_add.result
    c.requires.reader c.fetch_add.ensures.2

pub returns-clause-held : goal.returns-clause-held
returns-clause-held c =
    held_seat c.args.self.now c.args.seat.now c.fetch_add.new.seat c.fetch_add.ensures.0 c.args.key c.fetch_add.result
    c.requires.reader c.fetch_add.ensures.2
