-- What each call of the writer says of its token, by its code.
use Rattle.std.specs.Prelude.{ℕ, ◌≡◌, ◌<◌, ◌⊎◌, List, length}
use Rattle.nr_model.specs.declared.batches.Delta.{Delta}
use Rattle.nr_model.specs.declared.batches.TheConstants.{MAX_DELTAS}
use Rattle.nr_model.specs.declared.rows.Row.{Row}
use Rattle.nr_model.specs.Maps.{number_of, state_of}
use Rattle.nr_model.specs.Batches.{IsBatch}
use Rattle.nr_model.specs.Rows.{IsRowSet}
use Rattle.nr_board.specs.WriterAnswers.{CancelsKey, EvictsKey, FillsKey, LooksIn, ReplacesKey, UpdatesKey}
use Rattle.nr_board.specs.Callers.{Caller, map_seen}
use Rattle.nr_board.specs.Meetings.{StatesKey}
use Rattle.nr_c.specs.Numbers.{answer_bad_batch, answer_done}
use Rattle.nr_c.specs.declared.rows.NrRows.{NrRows}
use Rattle.nr_c.specs.Codes.{ByCode, cancel_code, evict_code, fill_code, found_code, kind_code, replace_code}
use Rattle.nr_c.specs.Codes.{update_code}
use Rattle.nr_c.specs.RowCells.{ShowsSet}
use Rattle.nr_c.specs.Rows.{AreRefused}

-- a find of the writer's own: the caller's cells show the rows of the reply, and stay as they are on a hole
abbrev pub LooksByCode : ℕ → NrRows → NrRows → Caller → Caller → ℕ → Type 0
LooksByCode key before after old new = ByCode found_code (LooksIn ShowsSet key old before new after)

-- rows that are no key's change nothing
abbrev pub RefusesRows : List Row → Caller → Caller → ℕ → Type 0
RefusesRows rows old new code = AreRefused old.table.shape.rows rows code × (new ≡ old)

-- any others are the map's fill
abbrev pub MapFills : ℕ → ℕ → List Row → Caller → Caller → ℕ → Type 0
MapFills key number rows old new code =
    IsRowSet old.table.shape.rows rows × ByCode fill_code (FillsKey key number rows old new) code

abbrev pub FillsByCode : ℕ → ℕ → List Row → Caller → Caller → ℕ → Type 0
FillsByCode key number rows old new code = RefusesRows rows old new code ⊎ MapFills key number rows old new code

-- and for a replacement
abbrev pub MapReplaces : ℕ → List Row → Caller → Caller → ℕ → Type 0
MapReplaces key rows old new code =
    IsRowSet old.table.shape.rows rows × ByCode replace_code (ReplacesKey key rows old new) code

abbrev pub ReplacesByCode : ℕ → List Row → Caller → Caller → ℕ → Type 0
ReplacesByCode key rows old new code = RefusesRows rows old new code ⊎ MapReplaces key rows old new code

-- signed rows that are none or too many, and any others
abbrev pub RefusesBatch : List Delta → Caller → Caller → ℕ → Type 0
RefusesBatch deltas old new code =
    (code ≡ answer_bad_batch) × ((length deltas ≡ 0) ⊎ (MAX_DELTAS < length deltas)) × (new ≡ old)

abbrev pub MapUpdates : ℕ → List Delta → Caller → Caller → ℕ → Type 0
MapUpdates key deltas old new code =
    IsBatch deltas × ByCode update_code (UpdatesKey old.table.shape.rows key deltas old new) code

abbrev pub UpdatesByCode : ℕ → List Delta → Caller → Caller → ℕ → Type 0
UpdatesByCode key deltas old new code = RefusesBatch deltas old new code ⊎ MapUpdates key deltas old new code

abbrev pub EvictsByCode : ℕ → Caller → Caller → ℕ → Type 0
EvictsByCode key old new = ByCode evict_code (EvictsKey key old new)

abbrev pub CancelsByCode : ℕ → Caller → Caller → ℕ → Type 0
CancelsByCode key old new = ByCode cancel_code (CancelsKey key old new)

abbrev pub StatesByCode : ℕ → Caller → Caller → ℕ → Type 0
StatesByCode key old new = ByCode kind_code (StatesKey key old new)

-- the number of a key's request, or of its next one, after all that the writer has seen, is told; the writer stays
abbrev pub IsNumber : ℕ → ℕ → Caller → Caller → ℕ → Type 0
IsNumber key told old new code = (code ≡ answer_done) × (told ≡ number_of (state_of (map_seen old) key)) × (new ≡ old)
