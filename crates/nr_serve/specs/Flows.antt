-- What contracts see of a dataflow, and what holds of it between its calls.
use Rattle.std.specs.Prelude.{◌≡◌, ◌<◌, ◌≤◌, Option, IfSome}
use Rattle.nr_board.specs.Callers.{Caller, Table}
use Rattle.nr_trigger.specs.declared.post.Post.{Post}
use Rattle.nr_trigger.specs.Tokens.{Queue, TakerSeen}
use Rattle.nr_serve.specs.Counts.{GuestSeen}

pub record FlowSeen (S : Type 0) : Type 0 where
  pub map : Table
  pub queue : Queue
  pub writer : Caller
  pub taker : TakerSeen
  -- the trigger that it keeps
  pub kept : Option Post
  pub source : S
  -- what it has seen of the lobby, and did there
  pub guest : GuestSeen

-- the writer is the map's and the taker the queue's, and each key that comes out of the queue is one of the map's
pub record IsPlaced (map : Table) (queue : Queue) (writer : Caller) (taker : TakerSeen) (kept : Option Post) : Type
    0 where
  pub writes : writer.table ≡ map
  pub takes : taker.queue ≡ queue.id
  pub keys : taker.keys ≤ map.shape.keys
  pub near : IfSome kept (λ post. post.upquery.key < map.shape.keys)
