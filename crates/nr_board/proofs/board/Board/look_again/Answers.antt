use Rattle.std.proofs.Common.{ap, arith, sym, ℕ, ◌≡◌}
use Rattle.nr_core.specs.Slots.{content, names_slot}
use Rattle.nr_board.proofs.BoardPlaces.{key_in, key_near, own_shape, same_id, stands}
use Rattle.nr_board.proofs.ReaderSeats.{again_exact, again_gains, again_holds, again_learns, again_marks, held_gripped}
use Rattle.nr_board.proofs.ReaderSeats.{held_inside, held_slot}
use Rattle.nr_board.proofs.ReaderSteps.{finds_again_so}
use Rattle.nr_board.specs.Views.{slot_held}
use Rattle.nr_board.proofs.board.Board.look_again.Goals as goal

pub load-requires : goal.load-requires
load-requires c =
    let shared = c.self.inside.table.shared in
    let board = stands c.self.view_is c.self.invariant in
    let seat = c.args.seat.now in (
      same_id c.requires.reader.own c.self.view_is,
      key_in board c.requires.key,
      finds_again_so shared.key.shape shared.table_id.slots seat.id seat.me c.args.key
          (key_near board c.requires.key) c.requires.reader.holds.is
          (own_shape board c.requires.reader.own),
    )

pub returns : goal.returns
returns c =
    let board = c.args.self.now in
    let before = c.args.seat.now in
    let after = c.load.new.seat in
    let slot = c.args.slot in
    let begin = content board.shape slot 0 in
    let key = c.args.key in
    let word = c.load.result in
    let reader = c.requires.reader in
    let same = c.load.ensures.0 in
    let told = c.load.ensures.2 in
    let answer = names_slot slot word in
    let named : names_slot (slot_held before.me.0.role) word ≡ answer
    = ap (λ (s : ℕ). names_slot s word) (sym (held_slot slot reader)) in
    record {
      reader = again_holds board before after same begin key word reader told answer named;
      role = told.role;
      same = again_gains board before after same begin key word reader told answer named;
      other = again_learns board before after same begin key word reader told answer named;
      exact = again_exact board before after same begin key word reader told answer named;
      marks = again_marks board before after same begin key word reader told answer named;
      says = told.says;
      holds = held_gripped slot reader;
      fits =
          let about = stands c.self.view_is c.self.invariant in
          omega (arith, held_inside slot reader, about.fits.slots);
    }
