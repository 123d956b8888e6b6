-- How the end of a load comes to its threads.
use Rattle.std.specs.Prelude.{◌≡◌, ◌≢◌, ◌<◌, true, None, slice_index}
use Rattle.atomic_table.specs.Seated.{TableId}
use Rattle.nr_serve.specs.Counts.{closed_at}
use Rattle.nr_load.specs.declared.workers.Outcome.{Outcome}

-- a worker that tells a fault closed the lobby, and one that stopped found it closed
pub record TellsEnd (lobby : TableId) (outcome : Outcome) : Type 0 where
  pub own : outcome.guest.lobby ≡ lobby
  pub fault : outcome.worked.fault ≢ None → 0 < outcome.guest.closes
  pub stopped : outcome.worked.stopped ≡ true → 0 < slice_index outcome.guest.seen closed_at
