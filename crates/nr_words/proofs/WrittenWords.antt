-- The words of a set, written over others: the first word, one row more, and the zeros behind the last row.
use Rattle.std.proofs.Common.{◌≡◌, ◌∙◌, ℕ, ◌+◌, ◌-◌, ◌*◌, ◌<◌, List, [], ◌∷◌, ◌++◌, length, take, drop, get_or, set}
use Rattle.std.proofs.Common.{replicate, ap, sym, refl, arith, append_assoc, append-nil, length-append, length-drop}
use Rattle.std.proofs.Math.ListN.{drop_of_length-le}
use borrow.Rule.Slice.PartMut.{put_mid}
use Rattle.std.proofs.lemmas.List.{length-take-le, set_at, take_more, drop_more, take_at, length-take}
use Rattle.nr_model.specs.declared.rows.Row.{Row}
use Rattle.nr_model.specs.Rows.{blank}
use Rattle.nr_model.specs.Padded.{padded}
use Rattle.nr_words.specs.SetWords.{row_words}
use Rattle.nr_words.proofs.SetWordLemmas.{length-row_words, row_words-append}

-- the words of one row more
row_words_more : (rows : List Row) (i : ℕ) → i < length rows
    → row_words (take (i + 1) rows) ≡ row_words (take i rows) ++ (get_or rows i blank).a ∷ (get_or rows i blank).b ∷ []
row_words_more rows i within =
    rw (take_more rows i blank within) (row_words-append (take i rows) (get_or rows i blank ∷ []))

-- the first word, written over the old one
pub first_written : (words : List ℕ) (first : ℕ) → 0 < length words
    → set words 0 first ≡ first ∷ drop 1 (set words 0 first)
first_written [] first some = absurd (omega arith)
first_written (old ∷ words) first some = refl

-- two words written over those behind the front
pair_written : (front old : List ℕ) (n m a b : ℕ) → length front ≡ n → m ≡ n + 1 → m < length old
    → set (set (front ++ drop n old) n a) m b ≡ (front ++ a ∷ b ∷ []) ++ drop (m + 1) old
pair_written front old n m a b long next fits =
    let rest : List ℕ = drop (m + 1) old in
    let two : drop n old ≡ get_or old n 0 ∷ get_or old m 0 ∷ rest
    = drop_more old n 0 (omega arith) ∙ rw (← next) (ap (λ more. get_or old n 0 ∷ more) (drop_more old m 0 fits)) in
    let first = set_at front (get_or old n 0) (get_or old m 0 ∷ rest) a n long in
    let behind : length (front ++ a ∷ []) ≡ m = omega (arith, length-append front (a ∷ [])) in
    let second = set_at (front ++ a ∷ []) (get_or old m 0) rest b m behind in
    rw (two, first, ← append_assoc front (a ∷ []) (get_or old m 0 ∷ rest))
    (second ∙ append_assoc front (a ∷ []) (b ∷ rest) ∙ sym (append_assoc front (a ∷ b ∷ []) rest))

-- the words of a set as far as a loop has written them over the old ones, and the next row
pub written_more : (words old : List ℕ) (rows : List Row) (i : ℕ) → i < length rows → 2 * i + 2 < length old
    → words ≡ (length rows ∷ row_words (take i rows)) ++ drop (2 * i + 1) old
    → set (set words (2 * i + 1) (get_or rows i blank).a) (2 * i + 2) (get_or rows i blank).b
    ≡ (length rows ∷ row_words (take (i + 1) rows)) ++ drop (2 * (i + 1) + 1) old
written_more words old rows i within fits so_far =
    let row : Row = get_or rows i blank in
    let long : length (length rows ∷ row_words (take i rows)) ≡ 2 * i + 1
    = omega (arith, length-row_words (take i rows), length-take-le i rows (omega arith)) in
    let next : 2 * (i + 1) + 1 ≡ 2 * i + 2 + 1 = omega arith in
    rw (so_far, row_words_more rows i within, next)
    (pair_written (length rows ∷ row_words (take i rows)) old (2 * i + 1) (2 * i + 2) row.a row.b long (omega arith)
    fits)

-- all words behind the front, written over at once
pub tail_written : (words front rest tail : List ℕ) (n : ℕ) → words ≡ front ++ rest → length front ≡ n
    → tail ≡ replicate (length (take (length words - n) (drop n words))) 0
    → put_mid n (length words - n) words tail ≡ padded (length words) 0 front
tail_written words front rest tail n is long zeros =
    let kept : take n words ≡ front = ap (take n) is ∙ take_at front rest n long in
    let many : length (take (length words - n) (drop n words)) ≡ length words - length front
    = omega (arith, length-take (length words - n) (drop n words), length-drop n words) in
    let none : drop (length words - n) (drop n words) ≡ []
    = drop_of_length-le (drop n words) (omega (arith, length-drop n words)) in
    rw (kept, zeros, many, none, append-nil) refl
