-- How many bytes C's structs take.
use Rattle.std.specs.Prelude.{ℕ, List, [], ◌∷◌, ◌++◌, slice_index_or}

-- a row, room for rows, a wanted key, a signed row, a shape, a map's sizes, its slots' counts, the five handles, a
-- shape by ids, an upquery, the two handles by id, and a wanted id
abbrev pub map_sizes : List ℕ
map_sizes = 16 ∷ 4088 ∷ 4096 ∷ 24 ∷ 32 ∷ 16 ∷ 12 ∷ 8 ∷ 8 ∷ 8 ∷ 8 ∷ 8 ∷ 32 ∷ 40 ∷ 8 ∷ 8 ∷ 4104 ∷ []

-- a cache's shape, its two handles, a value that is found, its counts, a flight, a value that comes out, and a key and
-- an id that are found into one array
abbrev pub struct_sizes : List ℕ
struct_sizes = map_sizes ++ 40 ∷ 8 ∷ 8 ∷ 16 ∷ 32 ∷ 16 ∷ 24 ∷ 12 ∷ 16 ∷ []

abbrev pub struct_size : ℕ → ℕ
struct_size place = slice_index_or struct_sizes place 0
