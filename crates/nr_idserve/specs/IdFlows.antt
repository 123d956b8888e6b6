-- What contracts see of a dataflow by id, and what holds of it between its calls.
use Rattle.std.specs.Prelude.{◌≡◌, ◌<◌, ℕ, Option, IfSome}
use Rattle.atomic_table.specs.Seated.{TableId}
use Rattle.nr_idmap.specs.Keepers.{IdTable, Keeper, Sent}
use Rattle.nr_ids.specs.Groups.{group_of}
use Rattle.nr_trigger.specs.Tokens.{Queue, TakerSeen}
use Rattle.nr_serve.specs.Counts.{GuestSeen}

pub record IdFlowSeen : Type 0 where
  pub map : IdTable
  pub queue : Queue
  pub lobby : TableId
  pub writer : Keeper
  pub taker : TakerSeen
  -- the upquery that it keeps
  pub kept : Option Sent
  -- the id of a claim that was taken, and whose group was full
  pub refused : Option ℕ
  -- what it has seen of the lobby, and did there
  pub guest : GuestSeen

-- the writer is the map's and the taker the queue's, and what is kept is of that map
pub record IsPlacedById (map : IdTable) (queue : Queue) (writer : Keeper) (taker : TakerSeen) (kept : Option Sent)
    (refused : Option ℕ) : Type 0 where
  pub writes : writer.table ≡ map
  pub takes : taker.queue ≡ queue.id
  pub own : IfSome kept (λ upquery. upquery.table ≡ map)
  pub real : IfSome refused (λ id. 0 < id)

-- the group of an id
abbrev pub group_in : IdFlowSeen → ℕ → ℕ
group_in flow id = group_of flow.map.directory.plan id
