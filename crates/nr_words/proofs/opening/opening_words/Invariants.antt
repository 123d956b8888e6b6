use Rattle.std.proofs.Common.{◌≡◌, ◌∷◌, ◌++◌, false, replicate}
use Rattle.nr_words.specs.Opening.{repeated}
use Rattle.nr_words.specs.KeyWords.{hole_word}
use Rattle.nr_words.specs.SetWords.{content_words}
use Rattle.nr_words.proofs.opening.opening_words.Given as goal

abbrev pub invariant-loop-slot : goal.invariant-loop-slot
invariant-loop-slot l =
    l.words.items
    ≡ replicate l.fn.layout.keys (hole_word l.fn.first_number false)
    ++ repeated l._slot (l.first_count ∷ replicate (content_words l.fn.layout.rows) 0)
