-- What each call of a store does.
use Rattle.std.specs.Prelude.{◌≡◌, ◌<◌, ◌≤◌, ℕ, ◌⊎◌, Bool, true, false, List, [], Option, Some, None}
use Rattle.nr_model.specs.declared.rows.Row.{Row}
use Rattle.nr_board.specs.declared.answers.Reclaimed.{Reclaimed}
use Rattle.nr_board.specs.declared.answers.Reaped.{Reaped}
use Rattle.nr_board.specs.Reaping.{ReapsIn}
use Rattle.nr_idmap.specs.Keepers.{IdCaller}
use Rattle.nr_map.specs.Remains.{Given}
use Rattle.nr_cache.specs.declared.finds.FoundValue.{FoundValue}
use Rattle.nr_cache.specs.declared.flights.Flight.{Flight}
use Rattle.nr_cache.specs.declared.flights.Fate.TheVariants as fate
use Rattle.nr_cache.specs.declared.store.Begun.{Begun}
use Rattle.nr_cache.specs.declared.store.Begun.TheVariants as begun
use Rattle.nr_cache.specs.declared.store.Landed.{Landed}
use Rattle.nr_cache.specs.declared.store.Landed.TheVariants as landed
use Rattle.nr_cache.specs.Flights.{Begins, BeginsChange, Ends, EndsOldest, FindsFlight, IsFree, IsFull, Outdates}
use Rattle.nr_cache.specs.Flights.{OutdatesAll, Underway, is_changing}
use Rattle.nr_cache.specs.Moves.{Moves, ShowsReaped}
use Rattle.nr_cache.specs.Places.{HasNoPlace, HasValue, Holds, IsGone, LooksAtValue, LooksUp, Loses, TakesEach}
use Rattle.nr_cache.specs.StoreSeen.{KeepsLimits, StoreSeen, stock_in}
use Rattle.nr_cache.specs.Values.{row_of}
use Rattle.nr_cache.specs.Weights.{Lightens, Stock}

-- whoever went weighs nothing any more, and each other one what it did
abbrev pub LosesWeight : StoreSeen → StoreSeen → Type 0
LosesWeight old new =
    (new.capacity ≡ old.capacity) × (new.hand ≡ old.hand) × Lightens old.keeper old.load new.keeper new.load

-- A MISS
-- the id was looked up, and else nothing happened to the map
abbrev pub OnlyLooksUp : ℕ → StoreSeen → StoreSeen → Option ℕ → Type 0
OnlyLooksUp id old new way =
    LooksUp id old.keeper new.keeper way × (new.asker ≡ old.asker) × KeepsLimits old new

-- the id has a value; its flight is under way; its flight begins; or there is no room for one more
abbrev pub BeginsFlight : ℕ → ℕ → StoreSeen → StoreSeen → Begun → Type 0
BeginsFlight id mark old new begun.Held =
    IsFree id old.underway × HasValue id old.keeper × (new.underway ≡ old.underway)
    × (way : ℕ) × OnlyLooksUp id old new (Some way)
BeginsFlight id mark old new (begun.Wait flight) = FindsFlight id old.underway (Some flight) × (new ≡ old)
BeginsFlight id mark old new (begun.Load flight) =
    IsFree id old.underway × IsGone id old.keeper × Begins id mark old.underway new.underway (Some flight)
    × OnlyLooksUp id old new None
BeginsFlight id mark old new begun.Alone =
    IsFree id old.underway × IsGone id old.keeper × IsFull old.underway × (new.underway ≡ old.underway)
    × OnlyLooksUp id old new None

-- A LOOK
-- the id's value was looked at, and nothing else happened
abbrev pub Looks : ℕ → StoreSeen → StoreSeen → Option FoundValue → Type 0
Looks id old new found =
    LooksAtValue id old.keeper new.keeper found × (new.underway ≡ old.underway) × (new.asker ≡ old.asker)
    × KeepsLimits old new

-- AN ID IS EVICTED
-- whether it had a value, and it has none any more; its flight stays
pub record Evicts (id : ℕ) (old new : StoreSeen) (had : Bool) : Type 0 where
  pub takes : Loses id old.keeper new.keeper had
  pub gone : IsGone id new.keeper
  pub rest : (new.underway ≡ old.underway) × (new.asker ≡ old.asker)
  pub weighs : LosesWeight old new

-- AN ID IS INVALIDATED
-- whether it had a value, and it has none any more; its flight is outdated
pub record Invalidates (id : ℕ) (old new : StoreSeen) (had : Bool) : Type 0 where
  pub found : Option Flight
  pub outdates : Outdates id old.underway new.underway found
  pub takes : Loses id old.keeper new.keeper had
  pub gone : IsGone id new.keeper
  pub rest : new.asker ≡ old.asker
  pub weighs : LosesWeight old new

-- ALL ARE
-- each value is taken, way by way, so that no id has one any more; each flight is outdated
pub record InvalidatesAll (old new : StoreSeen) : Type 0 where
  pub outdates : OutdatesAll old.underway new.underway
  pub takes : TakesEach old.keeper.table.map.shape.keys old.keeper new.keeper
  pub gone : (id : ℕ) → IsGone id new.keeper
  pub rest : new.asker ≡ old.asker
  pub weighs : LosesWeight old new

module _ {Room : Type 0} (shows : Room → List Row → Type 0) where
  -- A VALUE COMES
  abbrev pub HoldsOrNot : ℕ → ℕ → ℕ → ℕ → Row → Stock → IdCaller → Room → Stock → IdCaller → Room → Landed → Type 0
  HoldsOrNot capacity bound weight id row old asker before new asker' room (landed.Held given) =
      Holds shows capacity bound weight id row old asker before new asker' room given
  HoldsOrNot capacity bound weight id row old asker before new asker' room landed.Own =
      HasNoPlace id old asker new asker' × (room ≡ before)

  -- A FLIGHT'S END
  -- its value is held: nothing came between
  pub record LandsHeld (number stamp value weight bound : ℕ) (old : StoreSeen) (before : Room) (new : StoreSeen)
      (room : Room) (given : Reclaimed) : Type 0 where
    pub flight : Flight
    pub ends : Ends number old.underway new.underway (Some flight)
    pub fated : flight.fate ≡ fate.Hold
    pub holds : Holds shows old.capacity bound weight flight.id (row_of stamp value) (stock_in old) old.asker before
        (stock_in new) new.asker room given
    pub same : new.capacity ≡ old.capacity

  -- it is the caller's own: the flight wasn't under way or is outdated, or its value is heavier than all may be, and
  -- nothing else happened; or there was no place
  pub record LandsOwn (number weight : ℕ) (old : StoreSeen) (before : Room) (new : StoreSeen) (room : Room) : Type 0
    where
      pub found : Option Flight
      pub ends : Ends number old.underway new.underway found
      pub why : (((found ≡ None)
          ⊎ ((flight : Flight) × (found ≡ Some flight)
          × ((flight.fate ≡ fate.Outdated) ⊎ ((flight.fate ≡ fate.Hold) × (old.load.most < weight)))))
          × (stock_in new ≡ stock_in old) × (new.asker ≡ old.asker))
          ⊎ ((flight : Flight) × (found ≡ Some flight) × (flight.fate ≡ fate.Hold) × (weight ≤ old.load.most)
          × HasNoPlace flight.id (stock_in old) old.asker (stock_in new) new.asker)
      pub stays : room ≡ before
      pub same : new.capacity ≡ old.capacity

  abbrev pub Lands : ℕ → ℕ → ℕ → ℕ → ℕ → StoreSeen → Room → StoreSeen → Room → Landed → Type 0
  Lands number stamp value weight bound old before new room (landed.Held given) =
      LandsHeld number stamp value weight bound old before new room given
  Lands number stamp value weight bound old before new room landed.Own = LandsOwn number weight old before new room

  -- A PUT
  -- the id's flight is outdated, and its value is put, unless the id is being changed
  pub record PutsHeld (id stamp value weight bound : ℕ) (old : StoreSeen) (before : Room) (new : StoreSeen)
      (room : Room) (given : Reclaimed) : Type 0 where
    pub found : Option Flight
    pub outdates : Outdates id old.underway new.underway found
    pub quiet : is_changing id old.underway ≡ false
    pub holds : Holds shows old.capacity bound weight id (row_of stamp value) (stock_in old) old.asker before
        (stock_in new) new.asker room given
    pub same : new.capacity ≡ old.capacity

  -- the caller's own: while the id is being changed, or where the value is heavier than all may be, the id loses what
  -- it has; or there was no place
  pub record PutsOwn (id weight : ℕ) (old : StoreSeen) (before : Room) (new : StoreSeen) (room : Room) : Type 0 where
    pub found : Option Flight
    pub outdates : Outdates id old.underway new.underway found
    pub why : (((is_changing id old.underway ≡ true) ⊎ (old.load.most < weight))
        × ((had : Bool) × Loses id old.keeper new.keeper had) × (new.asker ≡ old.asker) × LosesWeight old new)
        ⊎ ((is_changing id old.underway ≡ false) × (weight ≤ old.load.most)
        × HasNoPlace id (stock_in old) old.asker (stock_in new) new.asker)
    pub gone : IsGone id new.keeper
    pub stays : room ≡ before
    pub same : new.capacity ≡ old.capacity

  abbrev pub Puts : ℕ → ℕ → ℕ → ℕ → ℕ → StoreSeen → Room → StoreSeen → Room → Landed → Type 0
  Puts id stamp value weight bound old before new room (landed.Held given) =
      PutsHeld id stamp value weight bound old before new room given
  Puts id stamp value weight bound old before new room landed.Own = PutsOwn id weight old before new room

  -- the oldest set that waits and that no reader holds came out, or none did
  pub record Reaps (old : StoreSeen) (before : Room) (new : StoreSeen) (room : Room) (answer : Reaped) : Type 0 where
    pub reaps : ReapsIn shows old.keeper.writer before new.keeper.writer room answer
    pub out : List Given
    pub moves : Moves shows old.keeper.writer [] out new.keeper.writer
    pub gives : ShowsReaped shows out before room answer
    pub rest : (new.underway ≡ old.underway) × (new.asker ≡ old.asker) × (new.keeper.clerk ≡ old.keeper.clerk)
        × (new.keeper.asker ≡ old.keeper.asker) × KeepsLimits old new

-- the flight of that number ended without a value
pub record Fails (number : ℕ) (old new : StoreSeen) (found : Option Flight) : Type 0 where
  pub ends : Ends number old.underway new.underway found
  pub rest : new ≡ record old { underway = new.underway }

-- the one that began first of those under way did
pub record FailsOldest (old new : StoreSeen) (found : Option Flight) : Type 0 where
  pub ends : EndsOldest old.underway new.underway found
  pub rest : new ≡ record old { underway = new.underway }

-- the id's flight is outdated, and a change of the id is under way where there was room
pub record ChangesId (id : ℕ) (old new : StoreSeen) (told : Bool) : Type 0 where
  pub found : Option Flight
  pub mid : Underway
  pub outdates : Outdates id old.underway mid found
  pub begins : BeginsChange id mid new.underway told
  pub rest : new ≡ record old { underway = new.underway }
