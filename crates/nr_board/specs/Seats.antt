-- Where a seat stands between two steps: whose it is, of which map, and what it holds.
use Rattle.std.specs.Prelude.{◌≡◌, ℕ, suc}
use Rattle.atomic_table.specs.declared.shared.Seat.{Seat}
use Rattle.nr_core.specs.Slots.{content}
use Rattle.nr_board.specs.Views.{View, slot_held, view_of}
use Rattle.nr_board.specs.Callers.{Table, token}
use Rattle.nr_board.specs.Plays.{Holds, IsIdle}

-- a reader's, which holds nothing and announces nothing
pub record IdlesAt (table : Table) (seat : Seat (Unit {0}) View) : Type 0 where
  pub own : (token seat).table ≡ table
  pub idle : IsIdle (view_of seat).role
  pub silent : (view_of seat).says ≡ 0

-- a reader's, whose own word announces that slot, and which holds nothing yet
pub record AnnouncesAt (table : Table) (slot : ℕ) (seat : Seat (Unit {0}) View) : Type 0 where
  pub own : (token seat).table ≡ table
  pub idle : IsIdle (view_of seat).role
  pub says : (view_of seat).says ≡ suc slot

-- a reader's, which holds the slot whose first content word stands there
pub record HoldsAt (table : Table) (begin : ℕ) (seat : Seat (Unit {0}) View) : Type 0 where
  pub own : (token seat).table ≡ table
  pub holds : Holds table.shape (view_of seat).role
  pub begin_is : begin ≡ content table.shape (slot_held (view_of seat).role) 0
