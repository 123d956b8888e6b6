-- The rows of a set, read word by word.
use Rattle.std.proofs.Common.{◌≡◌, ℕ, zero, suc, ◌+◌, ◌*◌, ◌<◌, ◌∙◌, List, [], ◌∷◌, length, get_or, refl, ap, arith}
use Rattle.std.specs.Prelude.{slice_get, Some}
use Rattle.nr_words.proofs.SetWordLemmas.{length-row_words}
use Rattle.std.proofs.lemmas.Option.{get_or_from_slice_get}
use Rattle.nr_model.specs.declared.rows.Row.{Row}
use Rattle.nr_words.specs.SetWords.{encode, row_words}

-- how many words a set has
pub length-encode : (rows : List Row) → length (encode rows) ≡ 2 * length rows + 1
length-encode rows = omega (arith, length-row_words rows)

row_at : (rows : List Row) (i : ℕ) → i < length rows
    → slice_get rows i
    ≡ Some (record { a = get_or (row_words rows) (2 * i) 0; b = get_or (row_words rows) (2 * i + 1) 0 })
row_at [] i low = absurd (omega arith)
row_at (row ∷ rows) zero low = refl
row_at (row ∷ rows) (suc i) low =
    row_at rows i (omega arith)
    ∙ (λ j. Some
    (record { a = get_or (row_words (row ∷ rows)) (even j) 0; b = get_or (row_words (row ∷ rows)) (odd j) 0 }))
  where
    even : suc (suc (2 * i)) ≡ 2 * suc i
    even = omega arith

    odd : suc (suc (2 * i + 1)) ≡ 2 * suc i + 1
    odd = omega arith

-- a row is the two words behind those of the rows before it
pub encoded_row : (rows : List Row) (i : ℕ) → i < length rows
    → slice_get rows i
    ≡ Some (record { a = get_or (encode rows) (2 * i + 1) 0; b = get_or (encode rows) (2 * i + 2) 0 })
encoded_row rows i low =
    row_at rows i low
    ∙ (λ j. Some (record { a = get_or (encode rows) (first j) 0; b = get_or (encode rows) (second j) 0 }))
  where
    first : suc (2 * i) ≡ 2 * i + 1
    first = omega arith

    second : suc (2 * i + 1) ≡ 2 * i + 2
    second = omega arith

-- its two numbers
pub row_words_at : (rows : List Row) (i : ℕ) (none : Row) → i < length rows
    → ((get_or rows i none).a ≡ get_or (encode rows) (2 * i + 1) 0)
    × ((get_or rows i none).b ≡ get_or (encode rows) (2 * i + 1 + 1) 0)
row_words_at rows i none low =
    let is = get_or_from_slice_get rows i _ none (encoded_row rows i low) in
    (ap (λ (row : Row). row.a) is, ap (λ (row : Row). row.b) is ∙ ap (λ (n : ℕ). get_or (encode rows) n 0) next)
  where
    next : 2 * i + 2 ≡ 2 * i + 1 + 1
    next = omega arith
