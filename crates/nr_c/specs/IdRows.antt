-- Which rows are no id's.
use Rattle.std.specs.Prelude.{ℕ, ◌≡◌, ◌<◌, ◌⊎◌, List, length}
use Rattle.nr_model.specs.declared.batches.Delta.{Delta}
use Rattle.nr_model.specs.declared.batches.TheConstants.{MAX_DELTAS}
use Rattle.nr_model.specs.declared.rows.Row.{Row}
use Rattle.nr_model.specs.Batches.{IsBatch}
use Rattle.nr_model.specs.Rows.{IsRowSet}
use Rattle.nr_idmap.specs.Tags.{AreIdDeltas, AreIdRows}
use Rattle.nr_c.specs.Numbers.{answer_bad_batch, answer_bad_row}
use Rattle.nr_c.specs.Rows.{AreRefused}

-- rows that no key takes, and else a row that looks like a tag
abbrev pub AreIdRowsRefused : ℕ → List Row → ℕ → Type 0
AreIdRowsRefused bound rows code =
    AreRefused bound rows code ⊎ ((code ≡ answer_bad_row) × IsRowSet bound rows × (AreIdRows rows → ⊥))

-- signed rows that are none or too many, and else one that looks like a tag
abbrev pub AreIdDeltasRefused : List Delta → ℕ → Type 0
AreIdDeltasRefused deltas code =
    ((code ≡ answer_bad_batch) × ((length deltas ≡ 0) ⊎ (MAX_DELTAS < length deltas)))
    ⊎ ((code ≡ answer_bad_row) × IsBatch deltas × (AreIdDeltas deltas → ⊥))
