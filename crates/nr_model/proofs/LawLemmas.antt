-- The laws.
use Rattle.std.proofs.Common.{◌≡◌, ◌↔◌, ◌∙◌, ℕ, ◌<◌, ◌≤◌, Bool, true, false, ltb, if◌then◌else◌, List, [], ◌∷◌, ◌++◌}
use Rattle.std.proofs.Common.{length, ⊎_elim, ap, refl, sym, arith, Ok, Err}
use Rattle.std.specs.List.{list_any}
use Rattle.std.proofs.lemmas.Bool.{ltb-true, or_cases}
use Rattle.std.proofs.lemmas.Bool.{false≢true}
use Rattle.std.proofs.lemmas.Bool.Decides.{nat_tests}
use Rattle.std.proofs.lemmas.List.Sums.{fold-append}
use Rattle.nr_model.specs.declared.rows.Row.{Row}
use Rattle.nr_model.specs.declared.batches.ApplyFault.TheVariants as fault
use Rattle.nr_model.specs.Rows.{row_eq, row_lt, is_ascending, count_of, is_short, with_all, without_all, in_order}
use Rattle.nr_model.specs.Batches.{applied, positive_rows, negative_rows, within_bound}
use Rattle.nr_model.specs.Maps.{PartialMap, reply_to, next}
use Rattle.nr_model.specs.Histories.{Entry, after, IsLegal}
use Rattle.nr_model.specs.Laws.{OrderKeepsRows, CountsDecide, OrderedStay, BatchMovesRows, BatchLacksRow, LegalGoesOn}
use Rattle.nr_model.specs.Laws.{LegalBegins}
use Rattle.nr_model.proofs.RowLemmas.{one, row_eq-refl, count_of-append, count_of-cons}
use Rattle.nr_model.proofs.RowLemmas.{length-with_all, count_of-with_all, ascending-with_all, ascending-without_all}
use Rattle.nr_model.proofs.RowLemmas.{count_of-without_all, enough_from, short_from}
use Rattle.nr_model.proofs.BatchLemmas.{is_short-with_all}
use Rattle.nr_model.proofs.PlaceLemmas.{rest_ascends}

pub order_keeps_rows_lem : OrderKeepsRows
order_keeps_rows_lem rows = (
  ascending-with_all [] rows refl,
  omega (arith, length-with_all [] rows),
  λ r. omega (arith, count_of-with_all [] rows r),
)

row_antisym : (r s : Row) → row_lt r s ≡ false → row_lt s r ≡ false → r ≡ s
row_antisym r s h k = grind (arith, nat_tests)

-- the first row of an ascending list is not above any of it
first_least : (xs : List Row) (x r : Row) → is_ascending (x ∷ xs) ≡ true → 0 < count_of (x ∷ xs) r → row_lt r x ≡ false
first_least [] x r h k = grind (arith, nat_tests, count_of-cons x [] r)
first_least (y ∷ ys) x r h k = grind (arith, nat_tests, count_of-cons x (y ∷ ys) r, first_least ys y r)

pub counts_decide_lem : CountsDecide
counts_decide_lem [] [] h k same = refl
counts_decide_lem [] (y ∷ ys) h k same = grind (arith, same y, count_of-cons y ys y, row_eq-refl y)
counts_decide_lem (x ∷ xs) [] h k same = grind (arith, same x, count_of-cons x xs x, row_eq-refl x)
counts_decide_lem (x ∷ xs) (y ∷ ys) h k same =
    let x_there : 0 < count_of (y ∷ ys) x = grind (arith, same x, count_of-cons x xs x, row_eq-refl x) in
    let y_there : 0 < count_of (x ∷ xs) y = grind (arith, same y, count_of-cons y ys y, row_eq-refl y) in
    let heads : x ≡ y = row_antisym x y (first_least ys y x k x_there) (first_least xs x y h y_there) in
    let tails : xs ≡ ys
    = counts_decide_lem xs ys (rest_ascends x xs h) (rest_ascends y ys k)
    (λ r. omega (arith, same r, count_of-cons x xs r, count_of-cons y ys r, ap (λ z. one (row_eq z r)) heads)) in
    ap (λ z. z ∷ xs) heads ∙ ap (λ l. y ∷ l) tails

pub ordered_stay_lem : OrderedStay
ordered_stay_lem rows h =
    let kept = order_keeps_rows_lem rows in counts_decide_lem (in_order rows) rows kept.0 h kept.2

-- what a batch that is applied leaves, and one that lacks a row is short of it
applied_left : (short : Bool) (bound : ℕ) (rest left : List Row)
    → (if short then Err fault.NoRow else within_bound bound rest) ≡ Ok left
    → (short ≡ false) × (length left ≤ bound) × (left ≡ rest)
applied_left short bound rest left h =
    (grind (arith, nat_tests), grind (arith, nat_tests), grind (arith, nat_tests))

lacks : (short : Bool) (bound : ℕ) (rest : List Row)
    → (if short then Err fault.NoRow else within_bound bound rest) ≡ Err fault.NoRow → short ≡ true
lacks short bound rest h = grind (arith, nat_tests)

pub batch_moves_rows_lem : BatchMovesRows
unfolding applied
batch_moves_rows_lem bound rows left batch h e =
    let more : List Row = positive_rows batch in
    let less : List Row = negative_rows batch in
    let parts = applied_left (is_short (rows ++ more) less) bound (without_all (with_all rows more) less) left e in
    let enough = enough_from (with_all rows more) less (sym (is_short-with_all rows more less) ∙ parts.0) in (
      (rw parts.2 (ascending-without_all (with_all rows more) less (ascending-with_all rows more h)), parts.1),
      λ r. omega (
        arith,
        ap (λ l. count_of l r) parts.2,
        count_of-with_all rows more r,
        count_of-without_all (with_all rows more) less enough r,
      ),
    )

any_row : (p : Row → Bool) (xs : List Row) → list_any p xs ≡ true → (r : Row) × (p r ≡ true)
any_row p [] h = absurd (false≢true h)
any_row p (x ∷ xs) h = ⊎_elim (λ e. (x, e)) (λ e. any_row p xs e) (or_cases (p x) (list_any p xs) h)

pub batch_lacks_row_lem : BatchLacksRow
unfolding applied
batch_lacks_row_lem bound rows batch =
    let more : List Row = positive_rows batch in
    let less : List Row = negative_rows batch in (
      λ h.
          let found : (r : Row) × (ltb (count_of (rows ++ more) r) (count_of less r) ≡ true)
          = any_row _ less
          (lacks (is_short (rows ++ more) less) bound (without_all (with_all rows more) less) h) in
          (found.0, omega (arith, count_of-append rows more found.0, ltb-true _ _ found.1)),
      λ found.
          let s : is_short (rows ++ more) less ≡ true
          = short_from (rows ++ more) less found.0 (omega (arith, found.1, count_of-append rows more found.0)) in
          rw s refl,
    )

legal_goes : (history : List Entry) (map : PartialMap) (e : Entry)
    → (IsLegal map history × (e.reply ≡ reply_to (after map history) e.call)) ↔ IsLegal map (history ++ e ∷ [])
legal_goes [] map e = (λ h. (h.1, tt), λ h. (tt, h.0))
legal_goes (x ∷ history) map e =
    let rest = legal_goes history (next map x.call) e in
    (λ h. (h.0.0, rest.0 (h.0.1, h.1)), λ h. ((h.0, (rest.1 h.1).0), (rest.1 h.1).1))

pub legal_goes_on_lem : LegalGoesOn
legal_goes_on_lem map history e =
    (fold-append (λ m x. next m x.call) map history (e ∷ []), legal_goes history map e)

pub legal_begins_lem : LegalBegins
legal_begins_lem map [] later h = tt
legal_begins_lem map (e ∷ history) later h = (h.0, legal_begins_lem (next map e.call) history later h.1)
