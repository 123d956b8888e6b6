-- What each call of a reader by id says of its token, by its code.
use Rattle.std.specs.Prelude.{ℕ, ◌≡◌}
use Rattle.nr_ids.specs.Answers.{Requests}
use Rattle.nr_idmap.specs.IdFinds.{FindsById}
use Rattle.nr_idmap.specs.IdHands.{IdHanded}
use Rattle.nr_idmap.specs.Keepers.{IdCaller}
use Rattle.nr_c.specs.declared.rows.NrRows.{NrRows}
use Rattle.nr_c.specs.Codes.{ByCode}
use Rattle.nr_c.specs.IdCodes.{found_id_code, request_code}
use Rattle.nr_c.specs.RowCells.{ShowsSet}

-- a find: the caller's cells show the id's rows, and stay with each other answer
abbrev pub FindsIdByCode : ℕ → NrRows → NrRows → IdCaller → IdCaller → ℕ → Type 0
FindsIdByCode id before after old new = ByCode found_id_code (FindsById ShowsSet id old before new after)

-- a request, by a reader that holds what it held
abbrev pub RequestsByCode : ℕ → IdHanded → IdHanded → ℕ → Type 0
RequestsByCode id old new =
    ByCode request_code
    (λ answer. Requests id old.ids new.ids answer × (new.hand ≡ old.hand) × (new.id ≡ old.id))
