use Rattle.std.proofs.Common.{◌≡◌, ◌+◌, ◌*◌, ◌∷◌, ◌++◌, length, take, drop}
use Rattle.nr_words.specs.SetWords.{row_words}
use Rattle.nr_words.proofs.set_words.encode.Given as goal

abbrev pub invariant-loop-place : goal.invariant-loop-place
invariant-loop-place l =
    l.words ≡ (length l.rows ∷ row_words (take l.place l.rows)) ++ drop (2 * l.place + 1) l.initial.words
