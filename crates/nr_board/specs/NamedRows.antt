-- The writer reads the set of the slot that its key names, word by word.
use Rattle.std.specs.Prelude.{◌≡◌, ℕ, ◌+◌, ◌*◌, ◌<◌, ◌≤◌, List, [], length, take}
use Rattle.nr_model.specs.Maps.{state_of}
use Rattle.nr_model.specs.Rows.{IsRowSet}
use Rattle.nr_model.specs.declared.rows.Row.{Row}
use Rattle.nr_model.specs.declared.states.KeyState.{KeyState}
use Rattle.nr_model.specs.declared.states.KeyState.TheVariants.{Asked, Hole, Rows}
use Rattle.nr_words.specs.SetWords.{encode}
use Rattle.nr_core.specs.Slots.{bound_of, content}
use Rattle.nr_core.specs.States.{key_of}
use Rattle.nr_core.specs.Story.{call_of, map_after}
use Rattle.nr_core.specs.Writer.{decided, read_on, step_in}
use Rattle.nr_core.specs.declared.calls.Step.{Step}
use Rattle.nr_core.specs.declared.calls.WriterCall.{WriterCall}
use Rattle.nr_core.specs.declared.roles.Desk.{Desk}
use Rattle.nr_board.specs.Callers.{Table}
use Rattle.nr_board.specs.Views.{desk_of, view_of}
use Rattle.nr_board.specs.WriterSeats.{KeyHas, LeadsIn, MapSeat}

-- the rows of a filled key
abbrev pub rows_of_state : KeyState → List Row
rows_of_state (Hole number) = []
rows_of_state (Asked number) = []
rows_of_state (Rows number rows) = rows

-- those that the call's key has after what the seat has seen
abbrev pub rows_named : Table → WriterCall → MapSeat → List Row
rows_named table call seat = rows_of_state (state_of (map_after table.shape (view_of seat).seen) (key_of call))

-- where the first words of the set, that many, take the writer
abbrev pub reads_on : Table → Desk → WriterCall → ℕ → List Row → ℕ → Desk × Step
reads_on table desk call slot rows words = read_on table.shape desk call slot (take words (encode rows))

-- since the seat was as it was before, it has read that many words of the set, one at least
pub record ReadTo (table : Table) (call : WriterCall) (begin : ℕ) (before after : MapSeat) (words : ℕ) : Type 0 where
  pub near : key_of call < table.shape.keys
  pub slot : ℕ
  pub begin_is : begin ≡ content table.shape slot 0
  pub row_set : IsRowSet (bound_of table.shape) (rows_named table call after)
  pub positive : 0 < words
  pub few : words ≤ 2 * length (rows_named table call after) + 1
  pub leads : LeadsIn words table (call_of call)
      (reads_on table (desk_of (view_of before).role) call slot (rows_named table call after) words) before after
  pub had : KeyHas table call (rows_named table call after)
      (step_in (reads_on table (desk_of (view_of before).role) call slot (rows_named table call after) words)) after
  pub marks : (view_of after).marks ≡ (view_of before).marks
  pub heard : (view_of after).heard ≡ (view_of before).heard

-- it has read them all
pub record ReadsAll (table : Table) (call : WriterCall) (rows : List Row) (before after : MapSeat) : Type 0 where
  pub row_set : IsRowSet (bound_of table.shape) rows
  pub leads : LeadsIn (2 * length rows + 1) table (call_of call)
      (decided table.shape (desk_of (view_of before).role) call rows) before after
  pub had : KeyHas table call rows (step_in (decided table.shape (desk_of (view_of before).role) call rows)) after
  pub marks : (view_of after).marks ≡ (view_of before).marks
  pub heard : (view_of after).heard ≡ (view_of before).heard
