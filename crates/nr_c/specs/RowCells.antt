-- Rows as C has them, and as the map has them. A single row is the same.
use Rattle.std.specs.Prelude.{◌≡◌, List, length, take}
use Rattle.nr_model.specs.declared.rows.Row.{Row}
use Rattle.nr_c.specs.declared.rows.NrRows.{NrRows}

-- the cells in use have just the rows of the set
pub record ShowsSet (rows : NrRows) (set : List Row) : Type 0 where
  pub count : rows.count ≡ length set
  pub cells : take rows.count rows.row ≡ set
