use Rattle.std.proofs.Common.{◌∙◌, sym, arith}
use Rattle.nr_words.proofs.SetWordLemmas.{words_of_row, no_word_past}
use Rattle.nr_words.proofs.set_words.word_at.Goals as goal

pub returns-in-Some-get : goal.returns-in-Some-get
returns-in-Some-get c =
    sym
    ((words_of_row c.args.set.now c.args.index _ c.in-Some-get.row (sym c.get.ensures ∙ c.in-Some-get.is)).0
    (omega (arith, c.in-Some.ensures.0, c.in-Some.ensures.1)))

pub returns-in-Some-2 : goal.returns-in-Some-2
returns-in-Some-2 c =
    sym
    ((words_of_row c.args.set.now c.args.index _ c.in-Some-get.row (sym c.get.ensures ∙ c.in-Some-get.is)).1
    (omega (arith, c.in-Some.ensures.0, c.in-Some.ensures.1, c.if-behind-eq0.false)))

pub returns-in-None : goal.returns-in-None
returns-in-None c =
    sym
    (no_word_past c.args.set.now c.args.index _ (sym c.get.ensures ∙ c.in-None.is)
    (omega (arith, c.in-Some.ensures.0, c.in-Some.ensures.1)))
