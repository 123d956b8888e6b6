-- Which rows are no key's.
use Rattle.std.specs.Prelude.{ℕ, ◌≡◌, ◌<◌, ◌≤◌, ◌⊎◌, List, length, false}
use Rattle.nr_model.specs.declared.rows.Row.{Row}
use Rattle.nr_model.specs.Rows.{is_ascending}
use Rattle.nr_c.specs.Numbers.{answer_not_sorted, answer_too_many}

-- rows that no fill and no replacement takes, by their code: more than a key may have, and else out of order
abbrev pub AreRefused : ℕ → List Row → ℕ → Type 0
AreRefused bound rows code =
    ((code ≡ answer_too_many) × (bound < length rows))
    ⊎ ((code ≡ answer_not_sorted) × (length rows ≤ bound) × (is_ascending rows ≡ false))
