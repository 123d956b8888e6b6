-- Names and their numbers: the names in the order in which they came, each one's index being its key number.
use Rattle.std.specs.Prelude.{◌≡◌, ◌≤◌, ◌<◌, ◌↔◌, ◌==◌, ℕ, Bool, ◌&&◌, if◌then◌else◌, nat_lt, List, [], ◌∷◌, ◌++◌}
use Rattle.std.specs.Prelude.{length, All, position, slice_get, Option, Some, None, is_none, Result, Ok, Err, is_ok}
use Rattle.std.specs.Str.{bytes_eq}
use Rattle.nr_names.specs.declared.faults.NameFault.{NameFault}
use Rattle.nr_names.specs.declared.faults.NameFault.TheVariants as fault

-- the names that are known, and how many may be
pub record Naming : Type 0 where
  pub keys : ℕ
  pub names : List (List ℕ)

-- no name is known yet
abbrev pub no_names : ℕ → Naming
no_names keys = record { keys = keys; names = [] }

-- the number of a name, if it is known
abbrev pub number_of_name : List (List ℕ) → List ℕ → Option ℕ
number_of_name names name = position (bytes_eq name) names

-- a known name has its number, and a new one gets the next, unless all are taken
abbrev pub number_for : Naming → Option ℕ → Result ℕ NameFault
number_for naming (Some number) = Ok number
number_for naming None = if nat_lt (length naming.names) naming.keys then Ok (length naming.names) else Err fault.Full

-- the reply to a name of at most that many bytes, where no memory is refused
abbrev pub intern_reply : ℕ → Naming → List ℕ → Result ℕ NameFault
intern_reply longest naming name =
    if length name == 0 then Err fault.Empty
    else if nat_lt longest (length name) then Err fault.TooLong
    else number_for naming (number_of_name naming.names name)

-- the name is new, and gets a number
abbrev pub adds : ℕ → Naming → List ℕ → Bool
adds longest naming name = is_none (number_of_name naming.names name) && is_ok (intern_reply longest naming name)

-- the names after it was interned
abbrev pub next_names : ℕ → Naming → List ℕ → List (List ℕ)
next_names longest naming name = if adds longest naming name then naming.names ++ name ∷ [] else naming.names

abbrev pub next_naming : ℕ → Naming → List ℕ → Naming
next_naming longest naming name = record naming { names = next_names longest naming name }

-- a name has a number exactly where the number has the name, so no two share one
abbrev pub IsOneToOne : List (List ℕ) → Type 0
IsOneToOne names =
    (name : List ℕ) (number : ℕ) → (number_of_name names name ≡ Some number) ↔ (slice_get names number ≡ Some name)

-- bytes that may be a name
pub record IsName (longest : ℕ) (name : List ℕ) : Type 0 where
  pub some : 0 < length name
  pub short : length name ≤ longest

-- what holds in every table of names
pub record IsSoundNaming (longest limit : ℕ) (naming : Naming) : Type 0 where
  pub within : naming.keys ≤ limit
  pub fits : length naming.names ≤ naming.keys
  pub are_names : All (IsName longest) naming.names
  pub one_to_one : IsOneToOne naming.names
