-- One value goes, whichever goes first, where its caller wants room.
use Rattle.std.specs.Prelude.{◌≡◌, ◌<◌, ℕ, Option, Some, None, true}
use Rattle.nr_idmap.specs.Keepers.{Keeper}
use Rattle.nr_cache.specs.declared.given.GivenValue.{GivenValue}
use Rattle.nr_cache.specs.Places.{IsGone, IsOther, LooksAtValue, TakesValue}
use Rattle.nr_cache.specs.Stamps.{GoesNext, LooksAround, way_after}
use Rattle.nr_cache.specs.StoreSeen.{StoreSeen, stock_in}
use Rattle.nr_cache.specs.Values.{values_in}
use Rattle.nr_cache.specs.Weights.{Lightens, Stock}

-- the value of a way that goes first was looked at, and is evicted; no way is a newcomer's
pub record TakesFirst (bound : ℕ) (old new : Stock) (given : GivenValue) : Type 0 where
  pub mid : Keeper
  pub looks : LooksAround old.keeper mid
  pub way : ℕ
  pub has : IsOther mid.table.map.shape.keys way given.id mid
  pub next : GoesNext bound mid.table.map.shape.keys old.hand new.hand way mid
  pub seen : Keeper
  pub tells : LooksAtValue given.id mid seen (Some (record { stamp = given.stamp; value = given.value }))
  pub takes : TakesValue given.id seen new.keeper true
  pub lightens : Lightens old.keeper old.load new.keeper new.load
  pub gone : IsGone given.id new.keeper
  pub fewer : values_in new.keeper < values_in old.keeper

-- or there is none, and the hand goes on by the eight ways, of which none was stale
pub record FindsNone (old new : Stock) : Type 0 where
  pub looks : LooksAround old.keeper new.keeper
  pub gone : (id : ℕ) → IsGone id new.keeper
  pub hand : new.hand ≡ way_after old.hand 8 new.keeper.table.map.shape.keys
  pub weighs : new.load ≡ old.load

abbrev pub TakesFirstOrNone : ℕ → Stock → Stock → Option GivenValue → Type 0
TakesFirstOrNone bound old new (Some given) = TakesFirst bound old new given
TakesFirstOrNone bound old new None = FindsNone old new

-- the flights stay
pub record EvictsOne (bound : ℕ) (old new : StoreSeen) (given : Option GivenValue) : Type 0 where
  pub takes : TakesFirstOrNone bound (stock_in old) (stock_in new) given
  pub rest : (new.underway ≡ old.underway) × (new.asker ≡ old.asker) × (new.capacity ≡ old.capacity)
