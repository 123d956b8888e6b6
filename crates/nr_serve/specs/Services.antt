-- What contracts see of a service.
use Rattle.atomic_table.specs.Seated.{TableId}
use Rattle.nr_board.specs.Callers.{Table}
use Rattle.nr_trigger.specs.Tokens.{Queue}

pub record ServiceSeen : Type 0 where
  pub map : Table
  pub queue : Queue
  pub lobby : TableId
