-- The rows of a set from one on.
use Rattle.std.proofs.Common.{ℕ, zero, suc, List, [], ◌∷◌, drop, refl, arith}
use Rattle.std.proofs.lemmas.Bool.{and_parts}
use Rattle.nr_model.specs.declared.rows.Row.{Row}
use Rattle.nr_model.specs.Rows.{IsRowSet}

-- they are a row set, too
pub set_behind : (bound : ℕ) (row : Row) (rows : List Row) → IsRowSet bound (row ∷ rows) → IsRowSet bound rows
set_behind bound row [] fits = (refl, omega arith)
set_behind bound row (next ∷ rows) fits = ((and_parts _ _ fits.0).1, omega (arith, fits.1))

pub set_from : (bound from : ℕ) (rows : List Row) → IsRowSet bound rows → IsRowSet bound (drop from rows)
set_from bound zero rows fits = fits
set_from bound (suc from) [] fits = fits
set_from bound (suc from) (row ∷ rows) fits = set_from bound from rows (set_behind bound row rows fits)
