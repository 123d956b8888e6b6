use Rattle.nr_board.proofs.BoardPlaces.{key_in, key_near, own_shape, same_id, stands}
use Rattle.nr_board.proofs.ReaderSeats.{looked_idle}
use Rattle.nr_board.proofs.Tokens.{seat_grows}
use Rattle.nr_board.proofs.WordSteps.{looks_up_so}
use Rattle.nr_board.proofs.board.Board.look_at_key.Goals as goal

pub load-requires : goal.load-requires
load-requires c =
    let shared = c.self.inside.table.shared in
    let board = stands c.self.view_is c.self.invariant in
    let seat = c.args.seat.now in (
      same_id c.requires.reader.own c.self.view_is,
      key_in board c.requires.key,
      looks_up_so shared.key.shape shared.table_id.slots seat.id seat.me c.args.key
          (key_near board c.requires.key) c.requires.reader.idle
          (own_shape board c.requires.reader.own),
    )

pub returns : goal.returns
returns c =
    let before = c.args.seat.now in
    let after = c.load.new.seat in
    let same = c.load.ensures.0 in
    let told = c.load.ensures.2 in
    let key = c.args.key in
    let found = c.load.result in
    record {
      reader = looked_idle c.args.self.now before after same key found c.requires.reader told;
      hole = λ empty. seat_grows before after _ same (told.hole empty);
      named = λ full. seat_grows before after _ same (told.named full);
      marks = told.marks;
    }
