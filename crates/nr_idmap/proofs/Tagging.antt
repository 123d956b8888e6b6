-- A batch of rows that stand behind a set's first one, as users' do behind a tag, leaves that where it is, and does to
-- the others what it does to them alone.
use Rattle.std.proofs.Common.{◌≡◌, ◌∙◌, ⊎_elim, ℕ, suc, ◌+◌, ◌<◌, Bool, false, not, cond, List, [], ◌∷◌, length, ap}
use Rattle.std.proofs.Common.{refl, sym, arith, Result, Ok, Err}
use Rattle.std.specs.List.{list_any, filter}
use Rattle.std.specs.Prelude.{All, nat_lt, map}
use Rattle.std.proofs.lemmas.Bool.{cases_Bool, cases_lt}
use Rattle.std.proofs.lemmas.Bool.Decides.{nat_tests}
use Rattle.std.proofs.lemmas.List.Elements.{All-tail}
use Rattle.nr_model.specs.declared.rows.Row.{Row}
use Rattle.nr_model.specs.declared.batches.Delta.{Delta}
use Rattle.nr_model.specs.declared.batches.ApplyFault.{ApplyFault}
use Rattle.nr_model.specs.Rows.{IsRowSet, row_eq, row_lt, count_of, is_short, with_row, without_row, with_all}
use Rattle.nr_model.specs.Rows.{without_all}
use Rattle.nr_model.specs.Batches.{applied, positive_rows, negative_rows}
use Rattle.nr_model.proofs.RowLemmas.{count_of-cons}
use Rattle.nr_model.proofs.BatchLemmas.{applied_no_row, applied_too_many, applied_ok}
use Rattle.nr_idmap.specs.Tags.{IsIdSet, tag_of}

-- rows that stand behind one
abbrev Above : Row → List Row → Type 0
Above first [] = Unit {0}
Above first (row ∷ rows) = (first.a < row.a) × Above first rows

-- a batch for such rows
abbrev pub IsBehind : Row → List Delta → Type 0
IsBehind first batch = All (λ delta. first.a < delta.row.a) batch

pub not_below : (row first : Row) → first.a < row.a → row_lt row first ≡ false
not_below row first above = grind (arith, nat_tests)

not_first : (row first : Row) → first.a < row.a → row_eq first row ≡ false
not_first row first above = grind (arith, nat_tests)

with_all_behind : (more rows : List Row) (first : Row) → Above first more
    → with_all (first ∷ rows) more ≡ first ∷ with_all rows more
with_all_behind [] rows first above = refl
with_all_behind (row ∷ more) rows first above =
    grind (arith, not_below row first above.0, with_all_behind more (with_row rows row) first above.1)

without_all_behind : (less rows : List Row) (first : Row) → Above first less
    → without_all (first ∷ rows) less ≡ first ∷ without_all rows less
without_all_behind [] rows first above = refl
without_all_behind (row ∷ less) rows first above =
    grind (arith, not_first row first above.0, without_all_behind less (without_row rows row) first above.1)

abbrev one : Bool → ℕ
one b = cond b 1 0

count_behind : (rows : List Row) (row first : Row) → first.a < row.a → count_of (first ∷ rows) row ≡ count_of rows row
count_behind rows row first above = omega (arith, count_of-cons first rows row, ap one (not_first row first above))

any_same : (p q : Row → Bool) (rows : List Row) (first : Row) → Above first rows
    → ((row : Row) → first.a < row.a → p row ≡ q row) →
    list_any p rows ≡ list_any q rows
any_same p q [] first above same = refl
any_same p q (row ∷ rows) first above same = rw (same row above.0, any_same p q rows first above.1 same)

short_behind : (rows less : List Row) (first : Row) → Above first less
    → is_short (first ∷ rows) less ≡ is_short rows less
short_behind rows less first above = any_same _ _ less first above
    (λ row a. ap (λ (n : ℕ). nat_lt n (count_of less row)) (count_behind rows row first a))

filtered_above : (keeps : Delta → Bool) (first : Row) (batch : List Delta) → IsBehind first batch
    → Above first (map (λ (d : Delta). d.row) (filter keeps batch))
filtered_above keeps first [] behind = tt
filtered_above keeps first (delta ∷ batch) behind =
    let rest = filtered_above keeps first batch (All-tail (λ d. first.a < d.row.a) delta batch behind) in
    let here = behind 0 delta (omega arith) in grind arith

abbrev pub put_first : Row → Result (List Row) ApplyFault → Result (List Row) ApplyFault
put_first first (Ok rows) = Ok (first ∷ rows)
put_first first (Err e) = Err e

pub applied_behind : (bound : ℕ) (first : Row) (rows : List Row) (batch : List Delta) → IsBehind first batch →
    applied (suc bound) (first ∷ rows) batch ≡ put_first first (applied bound rows batch)
applied_behind bound first rows batch behind =
    let more : List Row = positive_rows batch in let less : List Row = negative_rows batch in
    let more_above = filtered_above (λ d. d.plus) first batch behind in
    let less_above = filtered_above (λ d. not d.plus) first batch behind in
    let left : List Row = without_all (with_all rows more) less in
    let whole : with_all (first ∷ rows) more ≡ first ∷ with_all rows more
    = with_all_behind more rows first more_above in
    let short : is_short (with_all (first ∷ rows) more) less ≡ is_short (with_all rows more) less =
    ap (λ (l : List Row). is_short l less) whole ∙ short_behind (with_all rows more) less first less_above in
    let rest : without_all (with_all (first ∷ rows) more) less ≡ first ∷ left
    = ap (λ (l : List Row). without_all l less) whole
    ∙ without_all_behind less (with_all rows more) first less_above in
    let size : length (without_all (with_all (first ∷ rows) more) less) ≡ length left + 1 = omega
    (arith, ap (λ (l : List Row). length l) rest) in
    ⊎_elim
    (λ is. applied_no_row (suc bound) (first ∷ rows) batch (short ∙ is)
    ∙ ap (put_first first) (sym (applied_no_row bound rows batch is)))
    (λ isnt. ⊎_elim
    (λ above. applied_too_many (suc bound) (first ∷ rows) batch (short ∙ isnt) (omega (arith, size, above))
    ∙ ap (put_first first) (sym (applied_too_many bound rows batch isnt above)))
    (λ fits. applied_ok (suc bound) (first ∷ rows) batch (short ∙ isnt) (omega (arith, size, fits))
    ∙ ap (λ (l : List Row). Ok l) rest
    ∙ ap (put_first first) (sym (applied_ok bound rows batch isnt fits)))
    (cases_lt bound (length left)))
    (cases_Bool (is_short (with_all rows more) less))

-- rows behind a tag are a row set, and without it
pub tagged_set : (bound id : ℕ) (rows : List Row) → IsIdSet bound rows → IsRowSet (bound + 1) (tag_of id ∷ rows)
tagged_set bound id [] fits = (refl, omega arith)
tagged_set bound id (row ∷ rows) fits = grind (arith, fits.1 0 row (omega arith), not_below row (tag_of id))
