-- Rows ascend where none is below the one before it, and do not where one is.
use Rattle.std.proofs.Common.{◌≡◌, ◌∙◌, ℕ, zero, suc, ◌+◌, ◌-◌, ◌<◌, ◌≤◌, true, false, not, List, ◌∷◌, length, get_or}
use Rattle.std.proofs.Common.{slice_get, Some, ap, refl, arith, ⊎_elim}
use Rattle.std.specs.Ordering.{partial_lt}
use Rattle.std.proofs.lemmas.Bool.{and_from, and_left, and_right, cases_lt}
use Rattle.std.proofs.lemmas.Bool.Decides.{nat_tests}
use Rattle.std.proofs.lemmas.Option.{slice_get_within, get_or_from_slice_get}
use Rattle.nr_model.specs.declared.rows.Row.{Row}
use Rattle.nr_model.specs.contracts.rows.RowPartialOrd.TheImpl.{partial_cmp-value}
use Rattle.nr_model.specs.Rows.{blank, row_lt, is_ascending}

-- the code's test of two rows
pub tests_order : (r s : Row) → partial_lt partial_cmp-value.it r s ≡ row_lt r s
tests_order r s = grind (arith, nat_tests)

-- no row is below the one before it, as far as that place
abbrev pub AscendsTo : List Row → ℕ → Type 0
AscendsTo rows place = (k : ℕ) → suc k < place → row_lt (get_or rows (suc k) blank) (get_or rows k blank) ≡ false

pub all_ascend : (rows : List Row) → AscendsTo rows (length rows) → is_ascending rows ≡ true
all_ascend (r ∷ s ∷ rows) each =
    and_from _ _ (ap not (each 0 (omega arith))) (all_ascend (s ∷ rows) (λ k within. each (suc k) (omega arith)))
all_ascend rows each = refl

one_descends : (rows : List Row) (k : ℕ) → suc k < length rows
    → row_lt (get_or rows (suc k) blank) (get_or rows k blank) ≡ true → is_ascending rows ≡ false
one_descends (r ∷ s ∷ rows) zero within below = and_left _ _ (ap not below)
one_descends (r ∷ s ∷ rows) (suc k) within below = and_right _ _ (one_descends (s ∷ rows) k (omega arith) below)
one_descends rows k within below = absurd (omega arith)

-- the rows at a place and before it, as they were read
tested_there : (rows : List Row) (k place : ℕ) (s r : Row) → place ≡ suc k → slice_get rows place ≡ Some s
    → slice_get rows (place - 1) ≡ Some r → row_lt (get_or rows (suc k) blank) (get_or rows k blank) ≡ row_lt s r
tested_there rows k place s r next here before =
    let back : place - 1 ≡ k = omega arith in
    rw (
      ← next,
      get_or_from_slice_get rows place s blank here,
      ← back,
      get_or_from_slice_get rows (place - 1) r blank before,
    )
    refl

pub ascends_one_more : (rows : List Row) (place : ℕ) (s r : Row) → slice_get rows place ≡ Some s
    → slice_get rows (place - 1) ≡ Some r → row_lt s r ≡ false → AscendsTo rows place → AscendsTo rows (place + 1)
ascends_one_more rows place s r here before order each k within =
    ⊎_elim
    (λ near. each k near)
    (λ far. tested_there rows k place s r (omega arith) here before ∙ order)
    (cases_lt (suc k) place)

pub descends_there : (rows : List Row) (place : ℕ) (s r : Row) → 1 ≤ place → slice_get rows place ≡ Some s
    → slice_get rows (place - 1) ≡ Some r → row_lt s r ≡ true → is_ascending rows ≡ false
descends_there rows place s r some here before order =
    let within = slice_get_within rows place s here in
    one_descends rows (place - 1) (omega arith)
    (tested_there rows (place - 1) place s r (omega arith) here before ∙ order)
