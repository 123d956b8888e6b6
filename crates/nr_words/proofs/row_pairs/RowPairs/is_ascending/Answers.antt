use Rattle.std.proofs.Common.{◌∙◌, sym, arith}
use Rattle.nr_words.specs.SetWords.{rows_in}
use Rattle.nr_words.proofs.OrderLemmas.{tests_order, all_ascend, ascends_one_more, descends_there}
use Rattle.nr_words.proofs.RowPairLemmas.{length-rows_in_words}
use Rattle.nr_words.proofs.row_pairs.RowPairs.is_ascending.Goals as goal

pub loop-place-preserved : goal.loop-place-preserved
loop-place-preserved c =
    let order = sym (tests_order c.row.result c.row-in-loop-place.result) ∙ sym c.lt.ensures ∙ c.if-lt.false in
    record {
      some = omega arith;
      ordered =
          ascends_one_more (rows_in c.args.self.now.words.now) c.loop-place.place c.row.result
          c.row-in-loop-place.result c.row.ensures c.row-in-loop-place.ensures order c.loop-place.invariant.ordered;
    }

pub returns-then-lt : goal.returns-then-lt
returns-then-lt c =
    let order = sym (tests_order c.row.result c.row-in-loop-place.result) ∙ sym c.lt.ensures ∙ c.if-lt.true in
    sym
    (descends_there (rows_in c.args.self.now.words.now) c.loop-place.place c.row.result c.row-in-loop-place.result
    c.loop-place.invariant.some c.row.ensures c.row-in-loop-place.ensures order)

pub returns : goal.returns
returns c =
    let words = c.args.self.now.words.now in
    let whole = length-rows_in_words words in
    sym (all_ascend (rows_in words) (λ k within. c.loop-place.invariant.ordered k (omega (arith, whole.0))))
