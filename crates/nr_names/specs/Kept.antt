-- How a table keeps its names: in order, and in a map from each name to its number.
use Rattle.std.specs.Prelude.{◌≡◌, ◌≤◌, ℕ, List, map, String, string_bytes}
use Rattle.std.specs.BTreeMap.{BTreeMap, get_by_text}
use Rattle.nr_names.specs.Naming.{Naming, number_of_name, IsSoundNaming}

-- what the names say
abbrev pub naming_of : {Y : Type 0} → ℕ → List (String Y) → Naming
naming_of keys names = record { keys = keys; names = map string_bytes names }

-- the map finds each name's number, and there is room for as many names as keys
pub record IsKept {Y : Type 0} (longest limit room : ℕ) (naming : Naming) (numbers : BTreeMap (String Y) ℕ) : Type
    0 where
  pub sound : IsSoundNaming longest limit naming
  pub roomy : naming.keys ≤ room
  pub finds : (name : List ℕ) → get_by_text numbers name ≡ number_of_name naming.names name
