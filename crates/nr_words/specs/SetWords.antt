-- How a row set lies in words: the number of its rows, and then two words a row.
use Rattle.std.specs.Prelude.{ℕ, ◌≡◌, ◌+◌, ◌*◌, Bool, ◌&&◌, nat_le, if◌then◌else◌, List, [], ◌∷◌, length, take, drop}
use Rattle.std.specs.Prelude.{slice_index, Option, Some, None}
use Rattle.nr_model.specs.declared.rows.Row.{Row}
use Rattle.nr_model.specs.Rows.{is_ascending}

-- how many words that many rows take
abbrev pub content_words : ℕ → ℕ
content_words rows = 2 * rows + 1

-- the words of the rows
abbrev pub row_words : List Row → List ℕ
row_words [] = []
row_words (row ∷ rows) = row.a ∷ row.b ∷ row_words rows

-- the words of a set that count
abbrev pub encode : List Row → List ℕ
encode rows = length rows ∷ row_words rows

-- the words begin with those of the set
abbrev pub Spells : List ℕ → List Row → Type 0
Spells words rows = take (length (encode rows)) words ≡ encode rows

-- the rows that lie in pairs of words
abbrev pub rows_in : List ℕ → List Row
rows_in [] = []
rows_in (a ∷ []) = []
rows_in (a ∷ b ∷ words) = record { a = a; b = b } ∷ rows_in words

-- how many rows the words tell of, and which
abbrev pub row_count : List ℕ → ℕ
row_count words = slice_index words 0

abbrev pub rows_of : List ℕ → List Row
rows_of words = rows_in (take (2 * row_count words) (drop 1 words))

-- the words spell a set: as many of them as its rows take, and the rows in ascending order
abbrev pub is_set : List ℕ → Bool
is_set words = nat_le (content_words (row_count words)) (length words) && is_ascending (rows_of words)

-- the set that the words spell, if they spell one
abbrev pub decode : List ℕ → Option (List Row)
decode words = (if is_set words then Some (rows_of words) else None)
