-- Openings: the sizes that an opening line gives, and which of them a map may have.
use Rattle.std.specs.Prelude.{ℕ, ◌&&◌, nat_lt, nat_le, Bool, List, [], ◌∷◌, Option, Some, None, option_and_then}
use Rattle.std.specs.Prelude.{option_map}
use Rattle.nr_model.specs.declared.rows.TheConstants.{DEFAULT_ROWS}
use Rattle.nr_core.specs.declared.shape.Shape.{Shape}
use Rattle.nr_text.specs.declared.limits.TheConstants.{MAX_KEYS, MAX_NUMBER, MAX_READERS, MAX_ROWS, MAX_SLOTS}
use Rattle.nr_text.specs.declared.opening.Opening.{Opening}
use Rattle.nr_text.specs.Grammar.{number}

abbrev pub opening_of : Option ℕ → Option ℕ → Option ℕ → Option ℕ → Option ℕ → Option ℕ → Option Opening
opening_of keys slots readers first_count first_number rows =
    option_and_then (λ k. option_and_then (λ s. option_and_then (λ r. option_and_then (λ c. option_and_then (λ n.
    option_map (λ l. record { keys = k; slots = s; readers = r; first_count = c; first_number = n; rows = l }) rows)
    first_number)
    first_count)
    readers)
    slots)
    keys

-- keys, slots, readers, the first count, the first number and the rows of a key; the last three are 0, 0 and 15 where
-- they are left out
abbrev pub opening_of_words : List (List ℕ) → Option Opening
opening_of_words (keys ∷ slots ∷ readers ∷ []) =
    opening_of (number keys) (number slots) (number readers) (Some 0) (Some 0) (Some DEFAULT_ROWS)
opening_of_words (keys ∷ slots ∷ readers ∷ first_count ∷ []) =
    opening_of (number keys) (number slots) (number readers) (number first_count) (Some 0) (Some DEFAULT_ROWS)
opening_of_words (keys ∷ slots ∷ readers ∷ first_count ∷ first_number ∷ []) =
    opening_of (number keys) (number slots) (number readers) (number first_count) (number first_number)
    (Some DEFAULT_ROWS)
opening_of_words (keys ∷ slots ∷ readers ∷ first_count ∷ first_number ∷ rows ∷ []) =
    opening_of (number keys) (number slots) (number readers) (number first_count) (number first_number) (number rows)
opening_of_words other = None

-- the sizes of the map that an opening line asks for
abbrev pub shape_of_opening : Opening → Shape
shape_of_opening opening =
    record {
      keys = opening.keys;
      slots = opening.slots;
      readers = opening.readers;
      first_count = opening.first_count;
      first_number = opening.first_number;
      rows = opening.rows;
    }

-- as many as there may be, and at least one
abbrev pub is_some_of : ℕ → ℕ → Bool
is_some_of most n = nat_lt 0 n && nat_le n most

-- keys, slots, readers, the first number and the rows of a key are within their limits
abbrev pub is_in_limits : Opening → Bool
is_in_limits opening =
    is_some_of MAX_KEYS opening.keys && (is_some_of MAX_SLOTS opening.slots && (is_some_of MAX_READERS opening.readers
    && (nat_le opening.first_number MAX_NUMBER && is_some_of MAX_ROWS opening.rows)))
