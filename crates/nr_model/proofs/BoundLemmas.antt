-- Each key's rows are a row set within the bound, after whatever calls.
use Rattle.std.proofs.Common.{◌≡◌, ℕ, List, Result, Ok, Err, subst, refl, sym, arith}
use Rattle.std.proofs.lemmas.Bool.Decides.{nat_tests}
use Rattle.std.proofs.lemmas.List.{length-replicate}
use Rattle.nr_model.specs.declared.rows.Row.{Row}
use Rattle.nr_model.specs.declared.batches.Delta.{Delta}
use Rattle.nr_model.specs.declared.batches.ApplyFault.{ApplyFault}
use Rattle.nr_model.specs.declared.calls.Call.{Call}
use Rattle.nr_model.specs.declared.calls.Call.TheVariants.{Ask, Fill, Update, Replace, Evict, Cancel}
use Rattle.nr_model.specs.declared.states.KeyState.{KeyState}
use Rattle.nr_model.specs.declared.states.KeyState.TheVariants.{Hole, Asked, Rows}
use Rattle.nr_model.specs.Rows.{IsRowSet}
use Rattle.nr_model.specs.Batches.{applied}
use Rattle.nr_model.specs.Maps.{opening, state_after, rows_or}
use Rattle.nr_model.specs.Laws.{BringsRowSet, RowsStayWithinBound}
use Rattle.nr_model.proofs.HistoryLemmas.{kept_along, opens_so}
use Rattle.nr_model.proofs.LawLemmas.{batch_moves_rows_lem}

-- the rows of a filled key are a row set within the bound
abbrev HasRowSet : ℕ → KeyState → Type 0
HasRowSet bound (Rows n rows) = IsRowSet bound rows
HasRowSet bound other = Unit {0}

update_has : (bound : ℕ) (rows : List Row) (batch : List Delta) (left : Result (List Row) ApplyFault)
    → applied bound rows batch ≡ left → IsRowSet bound rows → IsRowSet bound (rows_or left rows)
update_has bound rows batch (Ok left) is h = (batch_moves_rows_lem bound rows left batch h.0 is).0
update_has bound rows batch (Err fault) is h = h

call_has : (bound : ℕ) (call : Call) (state : KeyState) → BringsRowSet bound call → HasRowSet bound state
    → HasRowSet bound (state_after bound call state)
call_has bound (Fill key number new) (Asked n) brings h = grind (arith, nat_tests)
call_has bound (Update key batch) (Rows n rows) brings h = update_has bound rows batch (applied bound rows batch) refl h
call_has bound (Replace key new) (Rows n rows) brings h = brings
call_has bound (Evict key) (Rows n rows) brings h = tt
call_has bound (Cancel key) (Asked n) brings h = grind (arith, nat_tests)
call_has bound (Ask key) (Hole n) brings h = tt
call_has bound _ state brings h = h

pub rows_stay_within_bound_lem : RowsStayWithinBound
rows_stay_within_bound_lem keys bound first_number key number rows history brings within filled =
    subst (HasRowSet bound) filled
    (kept_along BringsRowSet HasRowSet call_has history (opening keys bound first_number) key
    (omega (arith, within, length-replicate keys (Hole first_number))) brings
    (subst (HasRowSet bound) (sym (opens_so keys bound first_number key within)) tt))
