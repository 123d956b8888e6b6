-- The keys that a worker draws.
use Rattle.std.specs.Prelude.{ℕ, ◌%◌}
use Rattle.rand_pcg.specs.Lcg.{Lcg, increment_of, started}
use Rattle.rand_pcg.specs.Pcg.{multiplier_64, pcg32}

pub record DrawsSeen : Type 0 where
  pub generator : Lcg
  pub keys : ℕ

-- the worker's generator: the seed is its state, and the worker's number its stream
unfoldable pub stream_of : ℕ → ℕ → Lcg
stream_of seed worker = started 64 multiplier_64 seed (increment_of 64 worker)

-- the key that is drawn: the next word, modulo the number of keys
unfoldable pub drawn : ℕ → Lcg → ℕ
drawn keys generator = let (word, _) = pcg32 generator in word % keys

-- the generator after it
unfoldable pub drawn_on : Lcg → Lcg
drawn_on generator = let (_, next) = pcg32 generator in next
