-- The words of a new map.
use Rattle.std.specs.Prelude.{ℕ, zero, suc, false, List, [], ◌∷◌, ◌++◌, replicate}
use Rattle.nr_words.specs.declared.layout.Layout.{Layout}
use Rattle.nr_words.specs.KeyWords.{hole_word}
use Rattle.nr_words.specs.SetWords.{content_words}

-- a list over and over
abbrev pub repeated : {A : Type 0} → ℕ → List A → List A
repeated zero xs = []
repeated (suc n) xs = xs ++ repeated n xs

-- every key a hole with the first number, and every slot's departures the first count
abbrev pub opening_words : Layout → ℕ → ℕ → List ℕ
opening_words layout first_count first_number =
    replicate layout.keys (hole_word first_number false)
    ++ repeated layout.slots (first_count ∷ replicate (content_words layout.rows) 0)
