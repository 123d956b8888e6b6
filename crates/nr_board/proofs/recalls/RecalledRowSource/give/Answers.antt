use Rattle.std.proofs.Common.{ap, arith, get_or, sym, ◌*◌, ◌+◌, ◌∙◌, ◌≡◌}
use Rattle.std.specs.Prelude.{Some}
use Rattle.nr_words.specs.SetWords.{encode}
use Rattle.nr_core.specs.Marks.{set_in}
use Rattle.nr_board.proofs.Rows.{encoded_row, length-encode}
use Rattle.nr_board.specs.Views.{View}
use Rattle.nr_board.proofs.recalls.RecalledRowSource.give.Goals as goal

pub returns-clause-row : goal.returns-clause-row
returns-clause-row c =
    let source = c.args.self.now in
    let place = c.args.place in
    let rows = set_in source.seat.now.me.0.marks source.slot in
    let words = length-encode rows in
    let same : set_in c.recall-a.new.seat.me.0.marks source.slot ≡ rows
    = ap (λ (v : View). set_in v.marks source.slot) c.recall-a.ensures.step in
    let first = c.recall-a.ensures.word.1 (omega (arith, c.requires.more)) in
    let second
    = c.recall-b.ensures.word.1
    (rw same (omega (arith, c.requires.more))) in
    let next : 2 * place + 1 + 1 ≡ 2 * place + 2 = omega arith in
    let second_is : c.recall-b.result ≡ get_or (encode rows) (2 * place + 2) 0
    = second ∙ (λ j. get_or (encode (same j)) (next j) 0) in
    encoded_row rows place c.requires.more ∙ (λ j. Some (record { a = sym first j; b = sym second_is j }))
