-- What known words ask for, by the definition.
use Rattle.std.proofs.Common.{◌≡◌, [], ◌∷◌, codes, refl}
use Rattle.nr_prog.specs.declared.task.Misuse.TheVariants as misuse
use Rattle.nr_prog.specs.declared.task.Task.TheVariants.{Load, Explain}
use Rattle.nr_prog.specs.Tasks.{task}

four_readers : task (codes "load" ∷ codes "7" ∷ codes "4" ∷ codes "8" ∷ codes "100" ∷ [])
    ≡ Load (record { seed = 7; readers = 4; keys = 8; gets = 100 })
four_readers = refl

a_word_too_many : task (codes "load" ∷ codes "7" ∷ codes "4" ∷ codes "8" ∷ codes "100" ∷ codes "64" ∷ [])
    ≡ Explain misuse.Words
a_word_too_many = refl

no_reader : task (codes "load" ∷ codes "7" ∷ codes "0" ∷ codes "8" ∷ codes "100" ∷ []) ≡ Explain misuse.Readers
no_reader = refl

a_key_too_many : task (codes "load" ∷ codes "1" ∷ codes "1" ∷ codes "65537" ∷ codes "0" ∷ []) ≡ Explain misuse.Keys
a_key_too_many = refl

no_seed : task (codes "load" ∷ codes "x" ∷ codes "0" ∷ codes "0" ∷ codes "0" ∷ []) ≡ Explain misuse.Seed
no_seed = refl

two_words_missing : task (codes "load" ∷ codes "1" ∷ codes "2" ∷ []) ≡ Explain misuse.Words
two_words_missing = refl
