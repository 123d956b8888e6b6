-- The rows that lie in pairs of words: how many there are, and where each lies.
use Rattle.std.proofs.Common.{◌≡◌, ℕ, zero, suc, ◌+◌, ◌*◌, ◌<◌, ◌≤◌, List, ◌∷◌, length, get_or, slice_get, Some, refl}
use Rattle.std.proofs.Common.{arith}
use Rattle.nr_words.specs.SetWords.{rows_in}

pub length-rows_in_words : (words : List ℕ)
    → (2 * length (rows_in words) ≤ length words) × (length words ≤ 2 * length (rows_in words) + 1)
length-rows_in_words (a ∷ b ∷ words) = let rest = length-rows_in_words words in (omega arith, omega arith)
length-rows_in_words words = (omega arith, omega arith)

pub row_in_pair : (words : List ℕ) (place : ℕ) → 2 * place + 1 < length words
    → slice_get (rows_in words) place
    ≡ Some (record { a = get_or words (2 * place) 0; b = get_or words (2 * place + 1) 0 })
row_in_pair (a ∷ b ∷ words) zero within = refl
row_in_pair (a ∷ b ∷ words) (suc place) within =
    let first : 2 * suc place ≡ suc (suc (2 * place)) = omega arith in
    let second : 2 * suc place + 1 ≡ suc (suc (2 * place + 1)) = omega arith in
    rw (second, first) (row_in_pair words place (omega arith))
row_in_pair words place within = absurd (omega arith)
