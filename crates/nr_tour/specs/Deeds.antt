-- What was done to a store, the latest first.
use Rattle.std.specs.Prelude.{◌≡◌, ◌≢◌, ℕ, ◌⊎◌, ⊤, List, [], ◌∷◌}
use Rattle.nr_model.specs.declared.rows.Row.{Row}
use Rattle.nr_map.specs.Remains.{Given}
use Rattle.nr_cache.specs.declared.flights.Flight.{Flight}
use Rattle.nr_cache.specs.declared.store.Begun.{Begun}
use Rattle.nr_cache.specs.declared.store.Begun.TheVariants as begun
use Rattle.nr_cache.specs.declared.store.Landed.{Landed}
use Rattle.nr_cache.specs.declared.store.Landed.TheVariants as landed
use Rattle.nr_cache.specs.GivenValues.{ShowsValue}
use Rattle.nr_cache.specs.Histories as happened
use Rattle.nr_cache.specs.Histories.{Event}
use Rattle.nr_cache.specs.StoreRuns.{StoreRun}
use Rattle.nr_cache.specs.StoreSeen.{StoreSeen}
use Rattle.nr_tour.specs.declared.cache.deeds.Deed.{Deed}
use Rattle.nr_tour.specs.declared.cache.deeds.Deed.TheVariants.{Began, Held, Invalidated}

-- the flight began, and since then its id was not invalidated
abbrev pub IsFresh : Flight → List Deed → Type 0
IsFresh flight [] = ⊥
IsFresh flight (Began other ∷ earlier) = (other ≡ flight) ⊎ IsFresh flight earlier
IsFresh flight (Held number ∷ earlier) = IsFresh flight earlier
IsFresh flight (Invalidated id ∷ earlier) = (id ≢ flight.id) × IsFresh flight earlier

-- the flight of that number is such a one
abbrev pub BringsFresh : ℕ → List Deed → Type 0
BringsFresh number earlier = (flight : Flight) × (flight.number ≡ number) × IsFresh flight earlier

-- whatever was held, such a flight brought it
abbrev pub EachHeldIsFresh : List Deed → Type 0
EachHeldIsFresh [] = ⊤
EachHeldIsFresh (Began flight ∷ earlier) = EachHeldIsFresh earlier
EachHeldIsFresh (Held number ∷ earlier) = BringsFresh number earlier × EachHeldIsFresh earlier
EachHeldIsFresh (Invalidated id ∷ earlier) = EachHeldIsFresh earlier

-- the deeds with what a miss and a landing add
abbrev pub with_begun : Begun → List Deed → List Deed
with_begun (begun.Load flight) deeds = Began flight ∷ deeds
with_begun _ deeds = deeds

abbrev pub with_landed : ℕ → Landed → List Deed → List Deed
with_landed number (landed.Held given) deeds = Held number ∷ deeds
with_landed number landed.Own deeds = deeds

-- what a store's run tells of such deeds, which is all but what was held
abbrev pub told_by : List Event → List Deed
told_by [] = []
told_by (happened.Began flight ∷ earlier) = Began flight ∷ told_by earlier
told_by (happened.Invalidated id ∷ earlier) = Invalidated id ∷ told_by earlier
told_by (happened.Ended flight ∷ earlier) = told_by earlier
told_by (happened.AllInvalidated ∷ earlier) = told_by earlier
told_by (happened.ChangeBegan id ∷ earlier) = told_by earlier
told_by (happened.ChangeEnded id ∷ earlier) = told_by earlier

-- the deeds but that
abbrev pub but_held : List Deed → List Deed
but_held [] = []
but_held (Began flight ∷ earlier) = Began flight ∷ but_held earlier
but_held (Held number ∷ earlier) = but_held earlier
but_held (Invalidated id ∷ earlier) = Invalidated id ∷ but_held earlier

-- the store's own calls, one after another from its opening on, did that
pub record Did (deeds : List Deed) (store : StoreSeen) : Type 0 where
  pub history : List Event
  pub put : List (List Row)
  pub given : List Given
  pub run : StoreRun ShowsValue history put given store
  pub told : told_by history ≡ but_held deeds
  pub fresh : EachHeldIsFresh deeds
