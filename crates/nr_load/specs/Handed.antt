-- What the threads of a load are handed.
use Rattle.std.specs.Prelude.{◌≡◌, ◌≤◌, ℕ, All, vec_len, vec_capacity}
use Rattle.nr_board.specs.Callers.{Table}
use Rattle.nr_trigger.specs.Tokens.{PosterSeen, Queue, TakerSeen}
use Rattle.nr_load.specs.declared.threads.Lists.{Lists}
use Rattle.nr_load.specs.declared.threads.Tokens.{Tokens}

-- the poster takes every key of the map to the queue
abbrev pub IsPosterOf : Table → Queue → PosterSeen → Type 0
IsPosterOf map queue poster = (poster.queue ≡ queue.id) × (map.shape.keys ≤ poster.keys)

-- the taker gives keys of the map alone
abbrev pub IsTakerOf : Table → Queue → TakerSeen → Type 0
IsTakerOf map queue taker = (taker.queue ≡ queue.id) × (taker.keys ≤ map.shape.keys)

-- the tokens are those of the map and of its queue, with a poster for each reader
pub record AreTokensOf (map : Table) (queue : Queue) (tokens : Tokens) : Type 0 where
  pub writer : tokens.writer.table ≡ map
  pub taker : IsTakerOf map queue tokens.taker
  pub readers : All (λ reader. reader.table ≡ map) tokens.readers.items
  pub posters : All (IsPosterOf map queue) tokens.posters.items
  pub count : vec_len tokens.posters ≡ vec_len tokens.readers

-- the lists are empty, and have room for that many
pub record HasRoomFor (count : ℕ) (lists : Lists) : Type 0 where
  pub handles : (vec_len lists.handles ≡ 0) × (count ≤ vec_capacity lists.handles)
  pub outcomes : (vec_len lists.outcomes ≡ 0) × (count ≤ vec_capacity lists.outcomes)
