-- Finds of many by one call from C, whose rows go to one array of the caller's.
use Rattle.std.specs.Prelude.{ℕ, ◌≡◌, ◌<◌, ◌*◌, ◌/◌, ◌%◌, ◌==◌, All, List, ◌++◌, drop, length, map, take, Option, Some}
use Rattle.std.specs.Prelude.{None}
use Rattle.nr_model.specs.declared.rows.Row.{Row}
use Rattle.nr_map.specs.FirstRows.{FindsFirst}
use Rattle.nr_map.specs.Hands.{Handed, LetsGo}
use Rattle.nr_c.specs.Closings.{Hears}
use Rattle.nr_c.specs.Live.{Call, reader_keys}
use Rattle.nr_c.specs.Many.{FindsMany, Hearing, InOrder, LoadsKeysAhead}
use Rattle.nr_c.specs.Numbers.{answer_hole, answer_rows}
use Rattle.nr_c.specs.declared.many_first.NrFound.{NrFound}
use Rattle.nr_c.specs.declared.reader_side.ReaderSide.{ReaderSide}

-- the rows of the one at that index, where each has so many
abbrev pub part_of : ℕ → ℕ → List Row → List Row
part_of room place rows = take room (drop (place * room) rows)

-- with others in their place
abbrev pub with_part : ℕ → ℕ → List Row → List Row → List Row
with_part room place cells rows = take (place * room) rows ++ (cells ++ drop room (drop (place * room) rows))

abbrev pub first_code : Option ℕ → ℕ
first_code None = answer_hole
first_code (Some count) = answer_rows

abbrev pub count_found : Option ℕ → ℕ
count_found None = 0
count_found (Some count) = count

-- a find of one of the keys into its part of the rows, by a hand that keeps what it finds
abbrev pub FindsOneFirst : NrFound → NrFound → List Row → List Row → Hearing → Hearing → Type 0
FindsOneFirst wanted told before cells (old, knew) (new, knows) =
    (told.key ≡ wanted.key) × (found : Option ℕ) × Hears (first_code found) told.answer knew knows
    × (told.count ≡ count_found found) × FindsFirst wanted.key old before new cells found

abbrev pub keys_found : List NrFound → List ℕ
keys_found wanted = map (λ (one : NrFound). one.key) wanted

-- the find of the key at an index, before it the loads for each of sixteen where sixteen begin there
abbrev pub FindsAtFirst : ℕ → ℕ → List NrFound → NrFound → NrFound → Hearing × List Row → Hearing × List Row → Type 0
FindsAtFirst room place left wanted told ((old, knew), rows) (new, after) =
    (loaded : Handed) × LoadsKeysAhead (place % 16 == 0) (keys_found (take 16 left)) old loaded
    × (cells : List Row) × FindsOneFirst wanted told (part_of room place rows) cells (loaded, knew) new
    × (after ≡ with_part room place cells rows)

-- from the first key on, each with its part of the rows, and then what the last find holds is let go
pub record FindsEachFirst (wanted told : List NrFound) (rows after : List Row) (old new : Hearing) : Type 0 where
  pub room : ℕ
  pub room_is : 0 < length wanted → room ≡ length rows / length wanted
  pub last : Handed
  pub finds : InOrder (FindsAtFirst room) 0 wanted told (old, rows) ((last, new.1), after)
  pub lets_go : LetsGo last new.0

-- by a reader's handle
abbrev pub FindsSomeFirst : List NrFound → List NrFound → List Row → List Row → Call ReaderSide
FindsSomeFirst wanted told rows cells = FindsMany (FindsEachFirst wanted told rows cells)

-- the map of the handle's reader has each of the keys
abbrev pub AreFoundKeys : ReaderSide → List NrFound → Type 0
AreFoundKeys held wanted = All (λ one. one.key < reader_keys held) wanted
