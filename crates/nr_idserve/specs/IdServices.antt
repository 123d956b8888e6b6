-- What contracts see of a service by id.
use Rattle.atomic_table.specs.Seated.{TableId}
use Rattle.nr_idmap.specs.Keepers.{IdTable}
use Rattle.nr_trigger.specs.Tokens.{Queue}

pub record IdServiceSeen : Type 0 where
  pub map : IdTable
  pub queue : Queue
  pub lobby : TableId
