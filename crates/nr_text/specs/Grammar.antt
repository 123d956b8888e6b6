-- The grammar of words: numbers, rows, signed rows, and what a line of them spells.
use Rattle.std.specs.Prelude.{ℕ, ◌+◌, ◌-◌, ◌*◌, ◌^◌, ◌==◌, ◌&&◌, nat_lt, nat_le, if◌then◌else◌, Bool, true, false, List}
use Rattle.std.specs.Prelude.{[], ◌∷◌, length, Option, Some, None, Result, Ok, Err, option_map, option_and_then}
use Rattle.std.specs.List.{slice_split, before_first, after_first}
use Rattle.std.specs.Char.{is_ascii_digit}
use Rattle.nr_model.specs.declared.rows.Row.{Row}
use Rattle.nr_model.specs.declared.batches.Delta.{Delta}
use Rattle.nr_model.specs.declared.batches.TheConstants.{MAX_DELTAS}
use Rattle.nr_model.specs.declared.rows.TooMany.{TooMany}
use Rattle.nr_model.specs.declared.rows.TheConstants.{MAX_ROWS}
use Rattle.nr_model.specs.Rows.{in_order}

-- the words of a line: what stands between its spaces
abbrev pub words : List ℕ → List (List ℕ)
words line = slice_split (λ b. b == 32) line

-- the number that n's digits and then these spell, where it is below 2^64
abbrev pub number_on : ℕ → List ℕ → Option ℕ
number_on n [] = if nat_lt n (2 ^ 64) then Some n else None
number_on n (d ∷ ds) = if is_ascii_digit d then number_on (10 * n + (d - 48)) ds else None

-- a number: 1 to 20 digits
abbrev pub number : List ℕ → Option ℕ
number word = if nat_lt 0 (length word) && nat_le (length word) 20 then number_on 0 word else None

abbrev pub row_of_numbers : Option ℕ → Option ℕ → Option Row
row_of_numbers (Some a) (Some b) = Some (record { a = a; b = b })
row_of_numbers (Some a) None = None
row_of_numbers None b = None

-- a row: two numbers round a colon
abbrev pub row : List ℕ → Option Row
row word = row_of_numbers (number (before_first (λ b. b == 58) word)) (number (after_first (λ b. b == 58) word))

abbrev pub onto_all : {A : Type 0} → Option A → Option (List A) → Option (List A)
onto_all (Some first) (Some more) = Some (first ∷ more)
onto_all (Some first) None = None
onto_all None more = None

-- what each word spells, if each does
abbrev pub each : {A : Type 0} → (List ℕ → Option A) → List (List ℕ) → Option (List A)
each spells [] = Some []
each spells (word ∷ more) = onto_all (spells word) (each spells more)

abbrev pub signed : Bool → Option Row → Option Delta
signed plus = option_map (λ row. record { plus = plus; row = row })

-- a signed row: a plus or a minus, and a row right behind it
abbrev pub delta : List ℕ → Option Delta
delta [] = None
delta (sign ∷ spelled) =
    if sign == 43 then signed true (row spelled) else if sign == 45 then signed false (row spelled) else None

-- a set of those rows, if they are not too many
abbrev pub set_of : List Row → Result (List Row) TooMany
set_of rows = if nat_le (length rows) MAX_ROWS then Ok (in_order rows) else Err (record {})

-- the rows of a set, where they are not over the bound
abbrev pub within : ℕ → Result (List Row) TooMany → Option (List Row)
within bound (Ok rows) = if nat_le (length rows) bound then Some rows else None
within bound (Err e) = None

-- a batch of those signed rows, if it has some and not too many
abbrev pub batch_of : List Delta → Option (List Delta)
batch_of deltas = if nat_lt 0 (length deltas) && nat_le (length deltas) MAX_DELTAS then Some deltas else None

-- a word for a key, and rows
abbrev pub filling : {K C : Type 0} → (List ℕ → Option K) → (K → Result (List Row) TooMany → C) → List (List ℕ)
    → Option C
filling key command [] = None
filling key command (word ∷ more) =
    option_and_then (λ k. option_map (λ rows. command k (set_of rows)) (each row more)) (key word)

-- a word for a key, the number of its request, and rows
abbrev pub filling_as : {K C : Type 0} → (List ℕ → Option K) → (K → ℕ → Result (List Row) TooMany → C) → List (List ℕ)
    → Option C
filling_as key command (word ∷ spelled ∷ more) =
    option_and_then
    (λ k. option_and_then (λ n. option_map (λ rows. command k n (set_of rows)) (each row more)) (number spelled))
    (key word)
filling_as key command other = None

-- a word for a key, and signed rows
abbrev pub updating : {K C : Type 0} → (List ℕ → Option K) → (K → List Delta → C) → List (List ℕ) → Option C
updating key command [] = None
updating key command (word ∷ more) =
    option_and_then (λ k. option_map (λ batch. command k batch) (option_and_then batch_of (each delta more))) (key word)
