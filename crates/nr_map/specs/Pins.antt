-- A reader that holds a set.
use Rattle.std.specs.Prelude.{◌≡◌, ℕ, suc, ◌<◌, Bool, true, false, List, [], Some, None, Result, Ok, Err}
use Rattle.atomic_table.specs.declared.shared.Seat.{Seat}
use Rattle.nr_model.specs.declared.rows.Row.{Row}
use Rattle.nr_model.specs.declared.calls.Call.TheVariants as model
use Rattle.nr_model.specs.declared.calls.Reply.TheVariants as reply
use Rattle.nr_core.specs.Marks.{acted}
use Rattle.nr_core.specs.Puts.{put_number}
use Rattle.nr_board.specs.Callers.{Caller, Gains, Grows, token}
use Rattle.nr_board.specs.declared.board.Own.{Own}
use Rattle.nr_board.specs.declared.holds.Held.{Held}
use Rattle.nr_board.specs.Holds.{FindsHole, FindsRows, HeldAs, looked}
use Rattle.nr_board.specs.Views.{View, rows_held, view_of}
use Rattle.nr_map.specs.Tokens.{IsReader}

-- the reader, and the set that its find found
pub record Pinned : Type 0 where
  pub reader : Caller
  pub rows : List Row

abbrev pub pinned : Seat (Unit {0}) View → Pinned
pinned seat = record { reader = token seat; rows = rows_held (view_of seat).role }

-- the seat of that reader, which holds this
pub record Pins (seat : Seat (Unit {0}) View) (own : Own) (held : Held) : Type 0 where
  pub holds : HeldAs (token seat).table held seat
  pub reader : IsReader seat own

-- The slot that a reader holds. By its word it is the one that this says, which the last look at the key named; by a
-- count it is one of the map's.
pub record HoldsSlot (reader : Caller) : Type 0 where
  pub slot : ℕ
  pub is : reader.holds ≡ Some slot
  pub inside : slot < reader.table.shape.slots
  pub said : 0 < reader.says → reader.says ≡ suc slot

-- a pin is a find, in the steps of a hold: of a filled key it holds the rows of the reply, whose put number is the
-- key's, and a hole gives the reader back
abbrev pub PinsKey : ℕ → Caller → Result Pinned Caller → Type 0
PinsKey key old (Ok pin) =
    (finds : FindsRows 0 key pin.rows old pin.reader)
    × (pin.reader.marks ≡ acted (looked old.marks key finds.named) (put_number pin.reader.seen key))
    × HoldsSlot pin.reader × (pin.reader.says ≡ finds.says)
PinsKey key old (Err reader) =
    (finds : FindsHole 0 key old reader)
    × (reader.marks ≡ acted (looked old.marks key finds.named) (put_number reader.seen key)) × (reader.holds ≡ None)
    × (reader.says ≡ 0)

-- a find by a pin: where the key has the set that the pin holds, it is answered with its rows; else it is no entry, and
-- the pin learns the history so far
abbrev pub FindsByPin : ℕ → List Row → Caller → Caller → Bool → Type 0
FindsByPin key rows old new true = Gains 1 (model.Find key) old new (reply.Rows rows)
FindsByPin key rows old new false = Grows 1 [] old new
