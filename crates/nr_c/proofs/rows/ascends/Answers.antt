use Rattle.std.proofs.Common.{◌≡◌, ◌∙◌, ◌-◌, get_or, true, sym, arith, Some, slice_get}
use Rattle.std.proofs.lemmas.Option.{slice_get-get_or}
use Rattle.nr_model.specs.declared.rows.Row.{Row}
use Rattle.nr_model.specs.Rows.{blank, row_lt}
use Rattle.nr_words.proofs.OrderLemmas.{tests_order, all_ascend, descends_there}
use Rattle.nr_c.proofs.rows.ascends.Goals as goal

pub returns-then-lt : goal.returns-then-lt
returns-then-lt c =
    let rows = c.args.rows.now in
    let place = c.loop-place.place in
    let above : Row = get_or rows place blank in
    let below : Row = get_or rows (place - 1) blank in
    let order : row_lt above below ≡ true = sym (tests_order above below) ∙ sym c.lt.ensures ∙ c.if-lt.true in
    let here : slice_get rows place ≡ Some above
    = slice_get-get_or rows place blank (omega (arith, c.loop-place-test.true)) in
    let before : slice_get rows (place - 1) ≡ Some below
    = slice_get-get_or rows (place - 1) blank (omega (arith, c.loop-place-test.true)) in
    sym (descends_there rows place above below c.loop-place.invariant.some here before order)

pub returns : goal.returns
returns c =
    sym
    (all_ascend c.args.rows.now
    (λ k within. c.loop-place.invariant.ordered k (omega (arith, c.loop-place-test.false, within))))
