-- What the calls say that also give sets out, by their codes.
use Rattle.std.specs.Prelude.{ℕ, ◌≡◌, ◌⊎◌, List}
use Rattle.nr_model.specs.declared.batches.Delta.{Delta}
use Rattle.nr_model.specs.declared.rows.Row.{Row}
use Rattle.nr_model.specs.Batches.{IsBatch}
use Rattle.nr_model.specs.Rows.{IsRowSet}
use Rattle.nr_board.specs.Callers.{Caller}
use Rattle.nr_board.specs.Reaping.{ReapsIn}
use Rattle.nr_board.specs.Reclaiming.{FillsReclaiming, ReplacesReclaiming, UpdatesReclaiming}
use Rattle.nr_c.specs.declared.rows.NrRows.{NrRows}
use Rattle.nr_c.specs.Codes.{ByCode, fill_reclaiming_code, reaped_code, replace_reclaiming_code, update_reclaiming_code}
use Rattle.nr_c.specs.RowCells.{ShowsSet}
use Rattle.nr_c.specs.Writes.{RefusesBatch, RefusesRows}

-- rows that are no key's change nothing, and any others are the map's fill: the caller's cells show the set that came
-- out, and stay as they are where none did
abbrev pub FillsReclaimingByCode : ℕ → ℕ → List Row → NrRows → NrRows → Caller → Caller → ℕ → Type 0
FillsReclaimingByCode key number rows before after old new code =
    (RefusesRows rows old new code × (after ≡ before))
    ⊎ (IsRowSet old.table.shape.rows rows
    × ByCode fill_reclaiming_code (FillsReclaiming ShowsSet key number rows old before new after) code)

abbrev pub ReplacesReclaimingByCode : ℕ → List Row → NrRows → NrRows → Caller → Caller → ℕ → Type 0
ReplacesReclaimingByCode key rows before after old new code =
    (RefusesRows rows old new code × (after ≡ before))
    ⊎ (IsRowSet old.table.shape.rows rows
    × ByCode replace_reclaiming_code (ReplacesReclaiming ShowsSet key rows old before new after) code)

-- the same of signed rows
abbrev pub UpdatesReclaimingByCode : ℕ → List Delta → NrRows → NrRows → Caller → Caller → ℕ → Type 0
UpdatesReclaimingByCode key deltas before after old new code =
    (RefusesBatch deltas old new code × (after ≡ before))
    ⊎ (IsBatch deltas × ByCode update_reclaiming_code
    (UpdatesReclaiming ShowsSet old.table.shape.rows key deltas old before new after) code)

abbrev pub ReapsByCode : NrRows → NrRows → Caller → Caller → ℕ → Type 0
ReapsByCode before after old new = ByCode reaped_code (ReapsIn ShowsSet old before new after)
