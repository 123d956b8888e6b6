use Rattle.std.proofs.Common.{ap, arith, sym, ◌∙◌, ◌<◌}
use Rattle.nr_core.specs.declared.shape.Shape.{Shape}
use Rattle.nr_board.proofs.BoardPlaces.{key_in, stands}
use Rattle.nr_board.proofs.ReaderSeats.{confirmed_held, confirmed_marks, confirmed_not_yet, confirmed_other}
use Rattle.nr_board.proofs.ReaderSeats.{confirmed_says, confirmed_word, looked_announces, names_empty}
use Rattle.nr_board.proofs.Tokens.{seat_grows}
use Rattle.nr_board.proofs.WordSteps.{confirms_so}
use Rattle.nr_board.specs.Callers.{Table}
use Rattle.nr_board.proofs.board.Board.confirm.Goals as goal

pub load-requires : goal.load-requires
load-requires c =
    let shared = c.self.inside.table.shared in
    let board = stands c.self.view_is c.self.invariant in
    let seat = c.args.seat.now in
    let reader = c.requires.reader in
    let near : c.args.key < shared.key.shape.keys
    = omega (arith, c.requires.key, ap (λ (s : Shape). s.keys) board.key_is) in
    let says = reader.says in (
      ap (λ (t : Table). t.id) (reader.own ∙ sym c.self.view_is),
      key_in board c.requires.key,
      confirms_so shared.key.shape shared.table_id.slots seat.id c.args.own.index seat.me c.args.key near
          c.requires.word (ap (λ (t : Table). t.shape) reader.own ∙ sym board.key_is) reader.idle (omega arith),
    )

pub returns : goal.returns
returns c =
    let before = c.args.seat.now in
    let after = c.load.new.seat in
    let same = c.load.ensures.0 in
    let told = c.load.ensures.2 in
    let key = c.args.key in
    let found = c.load.result in
    let map = c.args.self.now in
    let slot = c.args.slot in let at = c.requires.reader in record {
      held = confirmed_held map before after same slot key found at told;
      hole = λ empty.
          let looked
          = confirmed_other map before after same slot key found at told (names_empty slot found empty) in (
            looked_announces map before after same slot key found at looked,
            seat_grows before after _ same (looked.hole empty),
          );
      other = λ no full.
          let looked = confirmed_other map before after same slot key found at told no in (
            looked_announces map before after same slot key found at looked,
            seat_grows before after _ same (looked.named full),
          );
      says = confirmed_says map before after same slot key found at told;
      word = confirmed_word map before after same slot key found at told c.args.own.index c.requires.word;
      found = confirmed_marks map before after same slot key found at told;
      not_yet = confirmed_not_yet map before after same slot key found at told;
    }
