use Rattle.std.proofs.Common.{◌≡◌, ◌≢◌, List, [], ◌∷◌, length, refl, arith, Option}
use Rattle.std.specs.Prelude.{MatchOption, slice_get}
use Rattle.nr_model.specs.declared.rows.Row.{Row}
use Rattle.nr_load.proofs.gets.only_row.Goals as goal

-- a set of one row
one_row : (rows : List Row) (row : Option Row) → length rows ≡ 1 → row ≡ slice_get rows 0
    → MatchOption row ((other : Row) → rows ≢ other ∷ []) (λ is. rows ≡ is ∷ [])
one_row (first ∷ []) row long is = rw is refl
one_row rows row long is = absurd (omega (arith, long))

pub returns-then-len-eq1 : goal.returns-then-len-eq1
returns-then-len-eq1 c =
    one_row c.args.rows.now c.get.result (omega (arith, c.len.ensures.value, c.if-len-eq1.true)) c.get.ensures
