-- Words that are left to take from a line.
use Rattle.std.specs.Prelude.{ℕ, List, [], Option, None, Some, option_map}
use Rattle.nr_text.specs.Grammar.{words}
use Rattle.nr_text.specs.declared.words.Words.{Words}

abbrev pub words_of : Option (List ℕ) → List (List ℕ)
words_of None = []
words_of (Some line) = words line

abbrev pub words_left : Words → List (List ℕ)
words_left left = words_of (option_map (λ line. line.now) left.rest)
