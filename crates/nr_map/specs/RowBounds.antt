-- How many rows a key has, in the history that a token has seen.
use Rattle.std.specs.Prelude.{◌≡◌, ◌<◌, ℕ, List}
use Rattle.nr_model.specs.declared.rows.Row.{Row}
use Rattle.nr_model.specs.declared.states.KeyState.TheVariants as states
use Rattle.nr_model.specs.Histories.{Entry, after}
use Rattle.nr_model.specs.Maps.{state_of}
use Rattle.nr_model.specs.Rows.{IsRowSet}
use Rattle.nr_board.specs.Callers.{Table, map_at_opening}
use Rattle.nr_board.specs.Entries.{AreCallers}

-- whatever a map's callers called, a filled key's rows are a row set of the map
abbrev pub RowsFitTheMap : Type 0
RowsFitTheMap =
    (map : Table) (log : List Entry) (key number : ℕ) (rows : List Row) →
    AreCallers map.shape log →
    key < map.shape.keys →
    state_of (after (map_at_opening map) log) key ≡ states.Rows number rows →
    IsRowSet map.shape.rows rows
