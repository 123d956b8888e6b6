-- What a client by id has in its hands, and how a claim goes through the queue: as a request of key 0, whose number is
-- the claim's id.
use Rattle.std.specs.Prelude.{◌≡◌, ◌<◌, ◌+◌, ℕ, ◌∷◌, [], ◌++◌, Option, IfSome, Some, None}
use Rattle.nr_ids.specs.Tokens.{Granted}
use Rattle.nr_idmap.specs.Keepers.{IdCaller, IdTable, id_table_of}
use Rattle.nr_serve.specs.Counts.{GuestSeen}
use Rattle.nr_trigger.specs.declared.post.Upquery.{Upquery}
use Rattle.nr_trigger.specs.Tokens.{IsSamePoster, PosterSeen, Queue, WasFull, poster_tried}
use Rattle.nr_idserve.specs.declared.hands.IdHands.{IdHands}

pub record IdClientSeen : Type 0 where
  pub map : IdTable
  pub queue : Queue
  -- what it was opened with
  pub opened : IdHands
  pub hands : IdHands
  -- what it has seen of the lobby, and did there
  pub guest : GuestSeen

-- the reader is the map's and the poster the queue's, and a claim that is kept is of the map's directory
pub record IsReadyFor (map : IdTable) (queue : Queue) (hands : IdHands) : Type 0 where
  pub reads : id_table_of hands.reader ≡ map
  pub posts : hands.poster.queue ≡ queue.id
  pub keys : 0 < hands.poster.keys
  pub own : IfSome hands.kept (λ claim. claim.directory ≡ map.directory)

-- the same with another reader
abbrev pub with_id_reader : IdHands → IdCaller → IdHands
with_id_reader hands reader = record hands { reader = reader }

abbrev pub claim_post : Granted → Upquery
claim_post claim = record { key = 0; number = claim.id }

-- by one attempt of the poster's it stands at the back of the queue
pub record PostsOne (upquery : Upquery) (old new : PosterSeen) : Type 0 where
  pub same : IsSamePoster old new
  pub tries : new.tries ≡ old.tries + 1
  pub posted : new.posted ≡ old.posted ++ upquery ∷ []
  pub notes : new.notes ≡ old.notes ++ None ∷ []

-- a claim that is kept is posted; or the queue was full, and it is kept still
abbrev pub PostsKept : ℕ → Option Granted → PosterSeen → Option Granted → PosterSeen → Type 0
PostsKept capacity None old kept new = (kept ≡ None) × (new ≡ old)
PostsKept capacity (Some claim) old None new = PostsOne (claim_post claim) old new
PostsKept capacity (Some claim) old (Some back) new = (back ≡ claim) × (new ≡ poster_tried old) × WasFull capacity old

-- a try begins with that
abbrev pub PostsFirst : ℕ → IdHands → IdHands → Type 0
PostsFirst capacity old new = (new.reader ≡ old.reader) × PostsKept capacity old.kept old.poster new.kept new.poster
