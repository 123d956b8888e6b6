-- What the calls by id say that also give sets out, by their codes.
use Rattle.std.specs.Prelude.{ℕ, ◌≡◌, ◌⊎◌, List, ◌∷◌, Result, Err}
use Rattle.nr_model.specs.declared.batches.Delta.{Delta}
use Rattle.nr_model.specs.declared.rows.Row.{Row}
use Rattle.nr_model.specs.Batches.{IsBatch}
use Rattle.nr_board.specs.declared.answers.Reclaimed.{Reclaimed}
use Rattle.nr_board.specs.declared.answers.ReplaceFault.{ReplaceFault}
use Rattle.nr_board.specs.declared.answers.UpdateFault.{UpdateFault}
use Rattle.nr_board.specs.Reaping.{ReapsIn}
use Rattle.nr_board.specs.Reclaiming.{ReplacesReclaiming, UpdatesReclaiming}
use Rattle.nr_idmap.specs.declared.upqueries.Unfilled.{Unfilled}
use Rattle.nr_idmap.specs.declared.writes.IdFault.{IdFault}
use Rattle.nr_idmap.specs.declared.writes.IdFault.TheVariants as fault
use Rattle.nr_idmap.specs.IdWrites.{CallsWay, FillsIdReclaiming}
use Rattle.nr_idmap.specs.Keepers.{Keeper, id_rows}
use Rattle.nr_idmap.specs.Tags.{AreIdDeltas, IsIdSet, tag_of}
use Rattle.nr_c.specs.declared.kept_upquery.NrUpquery.{NrUpquery}
use Rattle.nr_c.specs.declared.id_writer_side.IdWriterSide.{IdWriterSide}
use Rattle.nr_c.specs.declared.rows.NrRows.{NrRows}
use Rattle.nr_c.specs.Codes.{ByCode, reaped_code, reclaiming_code}
use Rattle.nr_c.specs.IdCodes.{filled_code, id_replace_code, id_update_code}
use Rattle.nr_c.specs.IdLive.{OwesAll}
use Rattle.nr_c.specs.IdRows.{AreIdDeltasRefused, AreIdRowsRefused}
use Rattle.nr_c.specs.IdUpqueries.{EndsKept, IsStale, RefusesIdRows, kept_unfilled}
use Rattle.nr_c.specs.RowCells.{ShowsSet}

abbrev pub filled_reclaiming_code : Result Reclaimed Unfilled → ℕ
filled_reclaiming_code = reclaiming_code filled_code

abbrev pub id_update_reclaiming_code : Result Reclaimed (IdFault UpdateFault) → ℕ
id_update_reclaiming_code = reclaiming_code id_update_code

abbrev pub id_replace_reclaiming_code : Result Reclaimed (IdFault ReplaceFault) → ℕ
id_replace_reclaiming_code = reclaiming_code id_replace_code

-- the one that was kept is the map's fill, which shows what it gives out
abbrev pub FillsKeptReclaiming : NrUpquery → List Row → NrRows → NrRows → IdWriterSide → IdWriterSide → ℕ → Type 0
FillsKeptReclaiming wanted rows before after old new =
    EndsKept filled_reclaiming_code (λ owed. FillsIdReclaiming ShowsSet owed rows old.writer before new.writer after)
    kept_unfilled wanted old.ledger new.ledger

abbrev pub FillsIdReclaimingByCode : NrUpquery → List Row → NrRows → NrRows → IdWriterSide → IdWriterSide → ℕ → Type 0
FillsIdReclaimingByCode wanted rows before after old new code =
    (RefusesIdRows rows old new code × (after ≡ before))
    ⊎ (IsIdSet (id_rows old.writer.table) rows
    × ((IsStale wanted old new code × (after ≡ before))
    ⊎ FillsKeptReclaiming wanted rows before after old new code))

-- an update and a replacement: where the id has no way the caller's cells stay
abbrev pub UpdatesWayReclaiming : ℕ → List Delta → NrRows → NrRows → Keeper → Keeper → ℕ → Type 0
UpdatesWayReclaiming id deltas before after old new code =
    ByCode id_update_reclaiming_code
    (λ answer. CallsWay (λ way o n r. UpdatesReclaiming ShowsSet old.table.map.shape.rows way deltas o before n after r)
    id old new answer × (answer ≡ Err fault.Absent → after ≡ before)) code

abbrev pub UpdatesIdReclaimingByCode : ℕ → List Delta → NrRows → NrRows → IdWriterSide → IdWriterSide → ℕ → Type 0
UpdatesIdReclaimingByCode id deltas before after =
    OwesAll
    (λ old new code. (AreIdDeltasRefused deltas code × (new ≡ old) × (after ≡ before))
    ⊎ ((IsBatch deltas × AreIdDeltas deltas) × UpdatesWayReclaiming id deltas before after old new code))

abbrev pub ReplacesWayReclaiming : ℕ → List Row → NrRows → NrRows → Keeper → Keeper → ℕ → Type 0
ReplacesWayReclaiming id rows before after old new code =
    ByCode id_replace_reclaiming_code
    (λ answer. CallsWay (λ way o n r. ReplacesReclaiming ShowsSet way (tag_of id ∷ rows) o before n after r) id old new
    answer × (answer ≡ Err fault.Absent → after ≡ before)) code

abbrev pub ReplacesIdReclaimingByCode : ℕ → List Row → NrRows → NrRows → IdWriterSide → IdWriterSide → ℕ → Type 0
ReplacesIdReclaimingByCode id rows before after =
    OwesAll
    (λ old new code. (AreIdRowsRefused (id_rows old.table) rows code × (new ≡ old) × (after ≡ before))
    ⊎ (IsIdSet (id_rows old.table) rows × ReplacesWayReclaiming id rows before after old new code))

-- a set that no find reads comes out, as the map's reap, and the directory isn't asked
abbrev pub ReapsIdByCode : NrRows → NrRows → IdWriterSide → IdWriterSide → ℕ → Type 0
ReapsIdByCode before after =
    OwesAll
    (λ old new. ByCode reaped_code
    (λ answer. ReapsIn ShowsSet old.writer before new.writer after answer × (new.clerk ≡ old.clerk)))
