-- The words of a set give its rows back, and words that spell a set are the words of that set.
use Rattle.std.proofs.Common.{◌≡◌, ◌∙◌, ℕ, zero, suc, ◌+◌, ◌*◌, ◌<◌, ◌≤◌, true, IsTrue, List, [], ◌∷◌, ◌++◌, length}
use Rattle.std.proofs.Common.{take, drop, get_or, slice_get, ap, sym, refl, arith, subst, Some, None, length-append}
use Rattle.std.proofs.lemmas.List.{length-take-le, take_at, take-append-drop, get_or_past}
use Rattle.nr_model.specs.declared.rows.Row.{Row}
use Rattle.nr_model.specs.Rows.{is_ascending, blank}
use Rattle.std.proofs.lemmas.Bool.{and_parts, le-leb}
use Rattle.std.proofs.lemmas.Option.{cond_some, slice_get_within, slice_get-get_or, get_or_from_slice_get}
use borrow.Author.Tests.{leb-true}
use Rattle.nr_words.specs.SetWords.{content_words, row_words, encode, Spells, rows_in, row_count, rows_of, is_set}
use Rattle.nr_words.specs.SetWords.{decode}
use Rattle.nr_words.proofs.RowPairLemmas.{length-rows_in_words}
use Rattle.nr_words.specs.Laws.{DecodeUndoesEncode}

pub length-row_words : (rows : List Row) → length (row_words rows) ≡ 2 * length rows
length-row_words [] = refl
length-row_words (row ∷ rows) = let rest = length-row_words rows in omega arith

pub row_words-append : (rows more : List Row) → row_words (rows ++ more) ≡ row_words rows ++ row_words more
row_words-append [] more = refl
row_words-append (row ∷ rows) more = ap (λ words. row.a ∷ row.b ∷ words) (row_words-append rows more)

pub rows_in-row_words : (rows : List Row) → rows_in (row_words rows) ≡ rows
rows_in-row_words [] = refl
rows_in-row_words (row ∷ rows) = ap (λ more. row ∷ more) (rows_in-row_words rows)

two_more : (n : ℕ) → 2 * suc n ≡ suc (suc (2 * n))
two_more n = omega arith

-- the two words of a row
row_at : (rows : List Row) (place : ℕ) (row : Row) → place < length rows
    → (get_or (row_words rows) (2 * place) 0 ≡ (get_or rows place row).a)
    × (get_or (row_words rows) (2 * place + 1) 0 ≡ (get_or rows place row).b)
row_at [] place row within = absurd (omega arith)
row_at (first ∷ rows) zero row within = (refl, refl)
row_at (first ∷ rows) (suc place) row within =
    let second : 2 * suc place + 1 ≡ suc (suc (2 * place + 1)) = omega arith in
    rw (second, two_more place) (row_at rows place row (omega arith))

pub words_of_row : (rows : List Row) (index place : ℕ) (row : Row) → slice_get rows place ≡ Some row
    → (index ≡ 2 * place + 1 → get_or (encode rows) index 0 ≡ row.a)
    × (index ≡ 2 * place + 2 → get_or (encode rows) index 0 ≡ row.b)
words_of_row rows index place row there =
    let both = row_at rows place row (slice_get_within rows place row there) in
    let is = get_or_from_slice_get rows place row row there in (
      λ first. let next : index ≡ suc (2 * place) = omega arith in rw next (both.0 ∙ ap (λ (found : Row). found.a) is),
      λ second.
          let next : index ≡ suc (2 * place + 1) = omega arith in rw next (both.1 ∙ ap (λ (found : Row). found.b) is),
    )

-- no word of a set lies behind its rows
pub no_word_past : (rows : List Row) (index place : ℕ) → slice_get rows place ≡ None → 2 * place < index
    → get_or (encode rows) index 0 ≡ 0
no_word_past rows index place none behind =
    let had = slice_get-get_or rows place blank in
    let past : length rows ≤ place = grind arith in
    get_or_past (encode rows) index 0 (omega (arith, length-row_words rows))

-- as many pairs of words as there are rows
pub row_words-rows_in : (count : ℕ) (words : List ℕ) → 2 * count ≤ length words
    → row_words (rows_in (take (2 * count) words)) ≡ take (2 * count) words
row_words-rows_in zero words h = refl
row_words-rows_in (suc count) (a ∷ b ∷ words) h =
    rw (two_more count) (ap (λ more. a ∷ b ∷ more) (row_words-rows_in count words (omega arith)))
row_words-rows_in (suc count) words h = absurd (omega arith)

pub length-rows_in : (count : ℕ) (words : List ℕ) → 2 * count ≤ length words
    → length (rows_in (take (2 * count) words)) ≡ count
length-rows_in count words h =
    let whole = length-rows_in_words (take (2 * count) words) in
    omega (arith, whole.0, whole.1, length-take-le (2 * count) words h)

-- a set's words decode to it, whatever stands behind them
pub rows_of-encode : (rows : List Row) (more : List ℕ) → rows_of (encode rows ++ more) ≡ rows
rows_of-encode rows more =
    ap rows_in (take_at (row_words rows) more (2 * length rows) (length-row_words rows)) ∙ rows_in-row_words rows

pub decode-set : (words : List ℕ) → content_words (row_count words) ≤ length words → is_ascending (rows_of words) ≡ true
    → decode words ≡ Some (rows_of words)
decode-set words room order = rw (le-leb (content_words (row_count words)) (length words) room, order) refl

pub decode-encode : (rows : List Row) (more : List ℕ) → IsTrue (is_ascending rows)
    → decode (encode rows ++ more) ≡ Some rows
decode-encode rows more order =
    let there = rows_of-encode rows more in
    let room : content_words (length rows) ≤ length (encode rows ++ more)
    = omega (arith, length-append (encode rows) more, length-row_words rows) in
    decode-set (encode rows ++ more) room (ap is_ascending there ∙ order) ∙ ap (λ found. Some found) there

-- the words of a set and others behind them
pub from_spells : (words : List ℕ) (rows : List Row) → Spells words rows
    → words ≡ encode rows ++ drop (length (encode rows)) words
from_spells words rows spelled =
    sym (take-append-drop (length (encode rows)) words)
    ∙ ap (λ front. front ++ drop (length (encode rows)) words) spelled

pub spells_rows_of : (words : List ℕ) → content_words (row_count words) ≤ length words → Spells words (rows_of words)
spells_rows_of [] room = absurd (omega arith)
spells_rows_of (count ∷ words) room =
    let same = row_words-rows_in count words (omega arith) in
    let few = length-rows_in count words (omega arith) in
    let whole : length (row_words (rows_in (take (2 * count) words))) ≡ 2 * count
    = omega (arith, few, length-row_words (rows_in (take (2 * count) words))) in
    rw (whole, few, same) refl

-- what was decoded
pub decode_gives : (words : List ℕ) (rows : List Row) → decode words ≡ Some rows
    → (content_words (row_count words) ≤ length words) × (is_ascending (rows_of words) ≡ true) × (rows_of words ≡ rows)
decode_gives words rows e =
    let parts = cond_some (is_set words) (rows_of words) rows e in
    let both = and_parts _ _ parts.0 in
    (leb-true _ _ both.0, both.1, parts.1)

pub decode_undoes_encode_lem : DecodeUndoesEncode
decode_undoes_encode_lem words rows = (
  λ e.
      let found = decode_gives words rows e in
      (sym (ap is_ascending found.2) ∙ found.1, subst (Spells words) found.2 (spells_rows_of words found.0)),
  λ h. ap decode (from_spells words rows h.1) ∙ decode-encode rows (drop (length (encode rows)) words) h.0,
)
