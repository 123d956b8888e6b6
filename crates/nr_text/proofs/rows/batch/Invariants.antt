use Rattle.nr_text.specs.declared.rows.TheConstants.{KEPT_DELTAS}
use Rattle.nr_text.specs.Grammar.{delta}
use Rattle.nr_text.specs.Words.{words_left}
use Rattle.nr_text.proofs.KeptLemmas.{Keeps}
use Rattle.nr_text.proofs.rows.batch.Given as goal

abbrev pub invariant-loop-word : goal.invariant-loop-word
invariant-loop-word l = Keeps delta KEPT_DELTAS (words_left l.fn.words) (words_left l.word-iterator) l.kept l.len
