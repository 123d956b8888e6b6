-- The writer's flags: a slot has none just where all readers that have a word were heard of it.
use Rattle.std.specs.Prelude.{◌≡◌, ℕ, ◌<◌, ◌≤◌, Bool, true, false, List, length, slice_index}
use Rattle.nr_core.specs.Roles.{retirements}
use Rattle.nr_core.specs.declared.places.Retired.{Retired}
use Rattle.nr_board.specs.Callers.{Table}
use Rattle.nr_board.specs.WholeScans.{is_flagged}

-- each slot but the retired ones is flagged
abbrev pub OthersFlagged : List Retired → List Bool → Type 0
OthersFlagged retired flags = (slot : ℕ) → retirements slot retired ≡ 0 → is_flagged flags slot ≡ true

pub record Flagged (table : Table) (retired : List Retired) (heard : List ℕ) (flags : List Bool) : Type 0 where
  pub wide : length flags ≡ table.shape.slots
  pub whole : (slot : ℕ) → is_flagged flags slot ≡ false → table.announcers ≤ slice_index heard slot
  pub stuck : (slot : ℕ) → is_flagged flags slot ≡ true → slice_index heard slot < table.announcers
  pub others : OthersFlagged retired flags

-- so where readers have words
abbrev pub IsFlagged : Table → List Retired → List ℕ → List Bool → Type 0
IsFlagged table retired heard flags = 0 < table.announcers → Flagged table retired heard flags
