use Rattle.std.proofs.Common.{◌∙◌, sym, arith}
use Rattle.nr_words.proofs.SetWordLemmas.{length-rows_in}
use Rattle.nr_words.proofs.set_words.decode.Goals as goal

pub refill-requires-clause-count : goal.refill-requires-clause-count
refill-requires-clause-count c = sym (length-rows_in c.in_ok-count.count.now c.in_ok-count.rest.now (omega arith))

pub refill-requires-clause-row_set : goal.refill-requires-clause-row_set
refill-requires-clause-row_set c =
    let long = length-rows_in c.in_ok-count.count.now c.in_ok-count.rest.now (omega arith) in
    (sym c.is_ascending.ensures ∙ c.if-not-is_ascending.false, omega (arith, c.in_ok-count.ensures.cases.1))
