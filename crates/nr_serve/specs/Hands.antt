-- What a client has in its hands, and how its calls move it.
use Rattle.std.specs.Prelude.{◌≡◌, ◌<◌, ◌≤◌, ◌+◌, ℕ, min, List, length, Option, None, IfSome}
use Rattle.nr_model.specs.Histories.{Entry}
use Rattle.nr_board.specs.Callers.{Caller, Table}
use Rattle.nr_map.specs.Tickets.{Request}
use Rattle.nr_trigger.specs.Tokens.{PosterSeen, Queue}
use Rattle.nr_serve.specs.Callers.{Makes}
use Rattle.nr_serve.specs.Tickets.{Posts, sent}

pub record HandsSeen : Type 0 where
  -- between its tries it holds no set
  pub reader : Caller
  pub poster : PosterSeen
  pub kept : Option Request
  pub sends : ℕ

-- counts stay at the last number
abbrev pub last_count : ℕ
last_count = 18446744073709551615

abbrev pub capped : ℕ → ℕ
capped count = min count last_count

-- the same with another reader
abbrev pub with_idle_reader : HandsSeen → Caller → HandsSeen
with_idle_reader hands reader = record hands { reader = reader }

-- the reader is the map's and the poster the queue's, which takes every key of the map
pub record IsReady (map : Table) (queue : Queue) (hands : HandsSeen) : Type 0 where
  pub reads : hands.reader.table ≡ map
  pub posts : hands.poster.queue ≡ queue.id
  pub keys : map.shape.keys ≤ hands.poster.keys
  pub near : IfSome hands.kept (λ ticket. ticket.key < hands.poster.keys)
  -- the reader holds no set
  pub idle : hands.reader.holds ≡ None
  pub few : hands.sends ≤ last_count

-- in that many steps the reader made these calls, no ticket was lost, and the requests that were sent are counted
pub record Moves (steps : ℕ) (entries : List Entry) (old new : HandsSeen) : Type 0 where
  pub makes : Makes steps entries old.reader new.reader
  pub posts : Posts (sent entries) old.poster old.kept new.poster new.kept
  pub sends : new.sends ≡ capped (old.sends + length (sent entries))
