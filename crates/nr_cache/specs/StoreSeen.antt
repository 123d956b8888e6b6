-- What contracts see of a store.
use Rattle.std.specs.Prelude.{◌≡◌, ℕ}
use Rattle.nr_idmap.specs.Keepers.{IdCaller, Keeper}
use Rattle.nr_cache.specs.Flights.{Underway}
use Rattle.nr_cache.specs.Weights.{Load, Stock}

-- the map's writer, the reader that claims ids for it, the flights, how many values there may be, what they weigh, and
-- the way at which the next look for one begins that goes
pub record StoreSeen : Type 0 where
  pub keeper : Keeper
  pub asker : IdCaller
  pub underway : Underway
  pub capacity : ℕ
  pub hand : ℕ
  pub load : Load

-- what it holds of them
abbrev pub stock_in : StoreSeen → Stock
stock_in store = record { keeper = store.keeper; load = store.load; hand = store.hand }

-- nothing changed in how many there may be, what they weigh, and the hand
abbrev pub KeepsLimits : StoreSeen → StoreSeen → Type 0
KeepsLimits old new = (new.capacity ≡ old.capacity) × (new.hand ≡ old.hand) × (new.load ≡ old.load)
