-- What each call of the writer by id says of its tokens, by its code.
use Rattle.std.specs.Prelude.{ℕ, ◌≡◌, ◌⊎◌, List, ◌∷◌}
use Rattle.nr_model.specs.declared.batches.Delta.{Delta}
use Rattle.nr_model.specs.declared.rows.Row.{Row}
use Rattle.nr_model.specs.Batches.{IsBatch}
use Rattle.nr_board.specs.WriterAnswers.{ReplacesKey, UpdatesKey}
use Rattle.nr_idmap.specs.IdLooks.{LooksById}
use Rattle.nr_idmap.specs.IdWrites.{CallsWay, EvictsId}
use Rattle.nr_idmap.specs.Keepers.{Keeper, id_rows}
use Rattle.nr_idmap.specs.Tags.{AreIdDeltas, IsIdSet, tag_of}
use Rattle.nr_c.specs.declared.rows.NrRows.{NrRows}
use Rattle.nr_c.specs.Codes.{ByCode, evict_code}
use Rattle.nr_c.specs.IdCodes.{id_replace_code, id_update_code, looked_code}
use Rattle.nr_c.specs.IdRows.{AreIdDeltasRefused, AreIdRowsRefused}
use Rattle.nr_c.specs.RowCells.{ShowsSet}

-- a find of the writer's own: the caller's cells show the id's rows, and stay with each other answer
abbrev pub LooksIdByCode : ℕ → NrRows → NrRows → Keeper → Keeper → ℕ → Type 0
LooksIdByCode id before after old new = ByCode looked_code (LooksById ShowsSet id old before new after)

-- signed rows that are no id's change nothing, and any others are the map's update of the id's way
abbrev pub UpdatesIdByCode : ℕ → List Delta → Keeper → Keeper → ℕ → Type 0
UpdatesIdByCode id deltas old new code =
    (AreIdDeltasRefused deltas code × (new ≡ old))
    ⊎ ((IsBatch deltas × AreIdDeltas deltas)
    × ByCode id_update_code (CallsWay (λ way. UpdatesKey old.table.map.shape.rows way deltas) id old new) code)

-- and for a replacement
abbrev pub ReplacesIdByCode : ℕ → List Row → Keeper → Keeper → ℕ → Type 0
ReplacesIdByCode id rows old new code =
    (AreIdRowsRefused (id_rows old.table) rows code × (new ≡ old))
    ⊎ (IsIdSet (id_rows old.table) rows
    × ByCode id_replace_code (CallsWay (λ way. ReplacesKey way (tag_of id ∷ rows)) id old new) code)

abbrev pub EvictsIdByCode : ℕ → Keeper → Keeper → ℕ → Type 0
EvictsIdByCode id old new = ByCode evict_code (EvictsId id old new)
