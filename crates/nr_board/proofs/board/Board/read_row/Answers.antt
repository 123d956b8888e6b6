use Rattle.std.proofs.Common.{List, ap, arith, get_or, sym, ◌∙◌, ◌*◌, ◌+◌}
use Rattle.std.specs.Prelude.{Some}
use Rattle.nr_model.specs.declared.rows.Row.{Row}
use Rattle.nr_words.specs.SetWords.{encode}
use Rattle.nr_board.proofs.Rows.{encoded_row, length-encode}
use Rattle.nr_board.specs.Views.{rows_held}
use Rattle.nr_board.proofs.board.Board.read_row.Goals as goal

pub read-a-requires-clause-index : goal.read-a-requires-clause-index
read-a-requires-clause-index c =
    let words = length-encode (rows_held c.args.seat.now.me.0.role) in
    omega (arith, c.requires.i)

pub read-b-requires-clause-index : goal.read-b-requires-clause-index
read-b-requires-clause-index c = let rows = rows_held c.args.seat.now.me.0.role in
    rw c.read-a.ensures.rows (let words = length-encode rows in
    omega (arith, c.requires.i))

pub returns-clause-row : goal.returns-clause-row
returns-clause-row c = let rows = rows_held c.args.seat.now.me.0.role in
    encoded_row rows c.args.i c.requires.i
    ∙ (λ j. Some
    (record {
      a = sym c.read-a.ensures.value j;
      b = sym
          (c.read-b.ensures.value
          ∙ ap (λ (held : List Row). get_or (encode held) (2 * c.args.i + 2) 0) c.read-a.ensures.rows)
          j;
    }))
