use Rattle.std.proofs.Common.{ap, arith, ℕ, ◌<◌}
use Rattle.nr_board.proofs.BoardPlaces.{own_shape, said_at, said_in, same_id, stands}
use Rattle.nr_board.proofs.ReaderSeats.{said_nothing, said_word}
use Rattle.nr_board.proofs.Tokens.{seat_rests}
use Rattle.nr_board.proofs.WordSteps.{says_so}
use Rattle.nr_board.specs.Callers.{Table}
use Rattle.nr_board.proofs.board.Board.clear.Goals as goal

pub store-requires : goal.store-requires
store-requires c =
    let shared = c.self.inside.table.shared in
    let board = stands c.self.view_is c.self.invariant in
    let seat = c.args.seat.now in
    let n : ℕ = shared.table_id.slots in
    let word = c.requires.word.within in
    let within : c.args.own.index < c.args.self.now.announcers
    = omega (arith, ap (λ (t : Table). t.announcers) c.requires.own) in
    let is = c.requires.place within in (
      same_id c.requires.own c.self.view_is,
      said_in board c.args.own.index within is,
      rw (said_at board c.args.own.index is)
          (says_so shared.key.shape n seat.id c.args.own.index 0 seat.me c.requires.word
          (own_shape board c.requires.own)
          (rw board.key_is c.requires.free)),
    )

pub returns : goal.returns
returns c =
    let before = c.args.seat.now in
    let after = c.store.new.seat in
    let same = c.store.ensures.0 in
    let told = c.store.ensures.2 in
    let map = c.args.self.now in
    record {
      reader = said_nothing map before after same c.requires.own told;
      word = said_word map before after same c.args.own.index 0 c.requires.word told;
      rests = seat_rests before after same told.waits;
      marks = told.marks;
    }
