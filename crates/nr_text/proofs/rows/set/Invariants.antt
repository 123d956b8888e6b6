use Rattle.nr_text.specs.declared.rows.TheConstants.{KEPT_ROWS}
use Rattle.nr_text.specs.Grammar.{row}
use Rattle.nr_text.specs.Words.{words_left}
use Rattle.nr_text.proofs.KeptLemmas.{Keeps}
use Rattle.nr_text.proofs.rows.set.Given as goal

abbrev pub invariant-loop-word : goal.invariant-loop-word
invariant-loop-word l = Keeps row KEPT_ROWS (words_left l.fn.words) (words_left l.word-iterator) l.kept l.len
