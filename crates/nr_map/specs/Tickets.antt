-- What contracts see of a ticket.
use Rattle.std.specs.Prelude.{ℕ}
use Rattle.nr_board.specs.Callers.{Table}

-- a request that was answered Send, with its key's ticket number
pub record Request : Type 0 where
  pub table : Table
  pub key : ℕ
  pub number : ℕ
