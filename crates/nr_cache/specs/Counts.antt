-- How much a store holds.
use Rattle.std.specs.Prelude.{◌≡◌, ◌≤◌, length}
use Rattle.nr_cache.specs.declared.counts.Counts.{Counts}
use Rattle.nr_cache.specs.Places.{CountsValues}
use Rattle.nr_cache.specs.StoreSeen.{KeepsLimits, StoreSeen}
use Rattle.nr_cache.specs.Weights.{weight_in}

-- how many ids have a value after the history so far, which the writer learns: no more than may be; what they weigh:
-- no more than they may; and what is under way
pub record CountsStore (old new : StoreSeen) (counts : Counts) : Type 0 where
  pub values : CountsValues old.keeper new.keeper counts.values
  pub within : counts.values ≤ old.capacity
  pub weight : counts.weight ≡ weight_in old.load
  pub light : counts.weight ≤ old.load.most
  pub flights : counts.flights ≡ length old.underway.flights
  pub changes : counts.changes ≡ length old.underway.changing
  pub rest : (new.underway ≡ old.underway) × (new.asker ≡ old.asker) × KeepsLimits old new
