-- A store's calls from its opening on: what happened to its flights, which sets it put, and which came out.
use Rattle.std.specs.Prelude.{◌≡◌, ℕ, Bool, true, false, List, [], ◌∷◌, ◌++◌, Option, Some, None}
use Rattle.nr_model.specs.declared.rows.Row.{Row}
use Rattle.nr_board.specs.declared.answers.Reaped.{Reaped}
use Rattle.nr_board.specs.declared.answers.Reclaimed.{Reclaimed}
use Rattle.nr_map.specs.GivenBack as map
use Rattle.nr_map.specs.GivenBack.{IsEachOnce}
use Rattle.nr_map.specs.Remains.{AllComeOut, Given, Left, TakenApart}
use Rattle.nr_cache.specs.declared.counts.Counts.{Counts}
use Rattle.nr_cache.specs.declared.finds.FoundValue.{FoundValue}
use Rattle.nr_cache.specs.declared.flights.Flight.{Flight}
use Rattle.nr_cache.specs.declared.given.GivenValue.{GivenValue}
use Rattle.nr_cache.specs.declared.store.Begun.{Begun}
use Rattle.nr_cache.specs.declared.store.Begun.TheVariants as begun
use Rattle.nr_cache.specs.Firsts.{EvictsOne}
use Rattle.nr_cache.specs.Flights.{EndsChange, none_under_way}
use Rattle.nr_cache.specs.Counts.{CountsStore}
use Rattle.nr_cache.specs.Histories.{AllInvalidated, Began, ChangeBegan, ChangeEnded, Ended, Event, Invalidated}
use Rattle.nr_cache.specs.Histories.{IsFresh, IsInOrder}
use Rattle.nr_cache.specs.StoreSeen.{StoreSeen}
use Rattle.nr_cache.specs.Stores.{BeginsFlight, ChangesId, Evicts, Fails, FailsOldest, Invalidates, InvalidatesAll}
use Rattle.nr_cache.specs.Stores.{LandsHeld, LandsOwn, Looks, PutsHeld, PutsOwn, Reaps}
use Rattle.nr_cache.specs.Swaps.{SwapsHeld, SwapsOwn}
use Rattle.nr_cache.specs.Values.{set_of}

-- what a call tells of the flights
abbrev pub began_by : Begun → List Event
began_by (begun.Load flight) = Began flight ∷ []
began_by _ = []

abbrev pub ended_by : Option Flight → List Event
ended_by (Some flight) = Ended flight ∷ []
ended_by None = []

abbrev pub changed_by : ℕ → Bool → List Event
changed_by id true = ChangeBegan id ∷ []
changed_by id false = Invalidated id ∷ []

module _ {Room : Type 0} (shows : Room → List Row → Type 0) where
  -- a call, by what its contract says: what happened to the flights, the set that it put, and that which came out
  pub data Calls : StoreSeen → List Event → List (List Row) → List Given → StoreSeen → Type 0 where
    Begins : (id mark : ℕ) (old new : StoreSeen) (answer : Begun) → BeginsFlight id mark old new answer
        → Calls old (began_by answer) [] [] new
    LandsIt : (number stamp value weight bound : ℕ) (old new : StoreSeen) (before room : Room) (given : Reclaimed)
        → (lands : LandsHeld shows number stamp value weight bound old before new room given)
        → Calls old (Ended lands.flight ∷ []) (set_of lands.flight.id stamp value ∷ []) lands.holds.out new
    LandsNone : (number weight : ℕ) (old new : StoreSeen) (before room : Room)
        → (lands : LandsOwn shows number weight old before new room) → Calls old (ended_by lands.found) [] [] new
    FailsIt : (number : ℕ) (old new : StoreSeen) (found : Option Flight) → Fails number old new found
        → Calls old (ended_by found) [] [] new
    FailsFirst : (old new : StoreSeen) (found : Option Flight) → FailsOldest old new found
        → Calls old (ended_by found) [] [] new
    InvalidatesIt : (id : ℕ) (old new : StoreSeen) (had : Bool) → Invalidates id old new had
        → Calls old (Invalidated id ∷ []) [] [] new
    PutsIt : (id stamp value weight bound : ℕ) (old new : StoreSeen) (before room : Room) (given : Reclaimed)
        → (puts : PutsHeld shows id stamp value weight bound old before new room given)
        → Calls old (Invalidated id ∷ []) (set_of id stamp value ∷ []) puts.holds.out new
    PutsNone : (id weight : ℕ) (old new : StoreSeen) (before room : Room)
        → PutsOwn shows id weight old before new room → Calls old (Invalidated id ∷ []) [] [] new
    ChangeBegins : (id : ℕ) (old new : StoreSeen) (told : Bool) → ChangesId id old new told
        → Calls old (changed_by id told) [] [] new
    ChangeEnds : (id : ℕ) (old new : StoreSeen) → EndsChange id old.underway new.underway true
        → new ≡ record old { underway = new.underway } → Calls old (ChangeEnded id ∷ []) [] [] new
    -- a look; a swap that found another value or none is one, and else it puts or takes what was looked at
    LooksIt : (id : ℕ) (old new : StoreSeen) (found : Option FoundValue) → Looks id old new found
        → Calls old [] [] [] new
    SwapsIt : (id was stamp value weight bound : ℕ) (old new : StoreSeen) (before room : Room) (given : Reclaimed)
        → (swaps : SwapsHeld shows id was stamp value weight bound old before new room given)
        → Calls old (Invalidated id ∷ []) (set_of id stamp value ∷ []) swaps.puts.holds.out new
    SwapsNone : (id was weight : ℕ) (old new : StoreSeen) (before room : Room)
        → SwapsOwn shows id was weight old before new room → Calls old (Invalidated id ∷ []) [] [] new
    EvictsIt : (id : ℕ) (old new : StoreSeen) (had : Bool) → Evicts id old new had → Calls old [] [] [] new
    EvictsFirst : (bound : ℕ) (old new : StoreSeen) (given : Option GivenValue) → EvictsOne bound old new given
        → Calls old [] [] [] new
    InvalidatesEach : (old new : StoreSeen) → InvalidatesAll old new → Calls old (AllInvalidated ∷ []) [] [] new
    CountsIt : (old new : StoreSeen) (counts : Counts) → CountsStore old new counts → Calls old [] [] [] new
    ReapsIt : (old new : StoreSeen) (before room : Room) (answer : Reaped)
        → (reaps : Reaps shows old before new room answer) → Calls old [] [] reaps.out new

  -- the store after any such calls, with what happened to its flights, the latest first, the sets that it put, in
  -- order, and those that came out
  pub data StoreRun : List Event → List (List Row) → List Given → StoreSeen → Type 0 where
    Opens : (room changes : ℕ) (store : StoreSeen) → store.underway ≡ none_under_way room changes
        → map.Run shows store.keeper.writer [] [] → StoreRun [] [] [] store
    Goes : (history events : List Event) (put more : List (List Row)) (given out : List Given) (old new : StoreSeen)
        → StoreRun history put given old → Calls old events more out new
        → StoreRun (events ++ history) (put ++ more) (given ++ out) new

  -- Of each id one flight at most is under way, each that began has ended once or is under way, and one whose value is
  -- to be held is fresh.
  abbrev pub StoresInOrder : Type 0
  StoresInOrder =
      (history : List Event) (put : List (List Row)) (given : List Given) (store : StoreSeen)
      → StoreRun history put given store → IsInOrder history store.underway

  -- A value that landed and is held: since its flight began its id was neither invalidated nor put nor changed.
  abbrev pub HoldsFresh : Type 0
  HoldsFresh =
      (history : List Event) (put : List (List Row)) (given : List Given) (number stamp value weight bound : ℕ)
      (old new : StoreSeen) (before room : Room) (some : Reclaimed)
      → StoreRun history put given old
      → (lands : LandsHeld shows number stamp value weight bound old before new room some)
      → IsFresh lands.flight history

  -- Each value that was held comes out once: by then, or when the map is taken apart.
  abbrev pub EachValueComesOutOnce : Type 0
  EachValueComesOutOnce =
      (history : List Event) (put : List (List Row)) (given rest : List Given) (store : StoreSeen) (left : Left)
      → StoreRun history put given store → TakenApart store.keeper.writer left → AllComeOut shows left rest
      → IsEachOnce put (given ++ rest)
