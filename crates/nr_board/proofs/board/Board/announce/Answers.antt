use Rattle.std.proofs.Common.{ap, arith, suc, ℕ, ◌+◌, ◌≡◌, ◌<◌}
use Rattle.nr_board.proofs.BoardPlaces.{own_shape, said_at, said_in, same_id, stands}
use Rattle.nr_board.proofs.ReaderSeats.{said_announces, said_word}
use Rattle.nr_board.proofs.Tokens.{seat_rests}
use Rattle.nr_board.proofs.WordSteps.{says_so}
use Rattle.nr_board.specs.Callers.{Table}
use Rattle.nr_board.proofs.board.Board.announce.Goals as goal

pub swap-requires : goal.swap-requires
swap-requires c =
    let shared = c.self.inside.table.shared in
    let board = stands c.self.view_is c.self.invariant in
    let seat = c.args.seat.now in
    let n : ℕ = shared.table_id.slots in
    let says : ℕ = c.args.slot + 1 in
    let word = c.requires.word.within in
    let within : c.args.own.index < c.args.self.now.announcers
    = omega (arith, ap (λ (t : Table). t.announcers) c.requires.own) in
    let is = c.requires.place within in (
      same_id c.requires.own c.self.view_is,
      said_in board c.args.own.index within is,
      rw (said_at board c.args.own.index is)
          (says_so shared.key.shape n seat.id c.args.own.index says seat.me c.requires.word
          (own_shape board c.requires.own)
          (rw board.key_is c.requires.free)),
    )

pub returns : goal.returns
returns c =
    let before = c.args.seat.now in
    let after = c.swap.new.seat in
    let same = c.swap.ensures.0 in
    let told = c.swap.ensures.2 in
    let map = c.args.self.now in
    let says : ℕ = c.args.slot + 1 in
    let next : says ≡ suc c.args.slot = omega arith in
    record {
      says = said_announces map before after same c.args.slot says c.requires.own next told;
      word = said_word map before after same c.args.own.index says c.requires.word told;
      rests = seat_rests before after same told.waits;
      marks = told.marks;
    }
