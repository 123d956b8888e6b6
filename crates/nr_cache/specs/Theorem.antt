-- What a caller of a store may rely on, in any run of its calls (StoreRun of StoreRuns.antt, whose cases are the words
-- of the calls' contracts). laws::theorem proves it.
use Rattle.std.specs.Prelude.{◌≡◌, ◌≤◌, ℕ, ◌+◌, List, AllPairs, count_by}
use Rattle.nr_model.specs.declared.rows.Row.{Row}
use Rattle.nr_map.specs.Remains.{Given}
use Rattle.nr_cache.specs.Counts.{CountsStore}
use Rattle.nr_cache.specs.Finds.{FindsNothingOlder}
use Rattle.nr_cache.specs.Flights.{has_number}
use Rattle.nr_cache.specs.Histories.{Differ, Event, times_begun, times_ended}
use Rattle.nr_cache.specs.StoreRuns.{EachValueComesOutOnce, HoldsFresh, StoreRun}
use Rattle.nr_cache.specs.StoreSeen.{StoreSeen}
use Rattle.nr_cache.specs.declared.counts.Counts.{Counts}

module _ {Room : Type 0} (shows : Room → List Row → Type 0) where
  -- FLIGHTS. Who misses an id begins its flight, and others wait for it: of an id one at most is under way.
  abbrev pub OneFlightAnId : Type 0
  OneFlightAnId =
      (history : List Event) (put : List (List Row)) (given : List Given) (store : StoreSeen)
      → StoreRun shows history put given store → AllPairs Differ store.underway.flights

  -- Each has a number of its own, and each that began ended once or is under way.
  abbrev pub EachFlightEnds : Type 0
  EachFlightEnds =
      (history : List Event) (put : List (List Row)) (given : List Given) (store : StoreSeen) (number : ℕ)
      → StoreRun shows history put given store
      → (times_begun number history ≤ 1)
      × (times_begun number history
      ≡ times_ended number history + count_by (has_number number) store.underway.flights)

  pub record Theorem : Type 0 where
    pub one : OneFlightAnId
    pub ends : EachFlightEnds
    -- WHAT IS HELD IS FRESH. Since the flight of a value that landed began, its id was neither invalidated nor put nor
    -- changed (IsFresh of Histories.antt).
    pub fresh : HoldsFresh shows
    -- EACH VALUE COMES OUT ONCE, with its id, by a call or when the map is taken apart, and nothing else does.
    pub out : EachValueComesOutOnce shows
    -- NOTHING OLDER. After an invalidation who hears the writer's note finds only a value that was put since.
    pub later : FindsNothingOlder
    -- NEVER MORE THAN THE CAPACITY, whichever calls were made (IsWithin of Values.antt, by Store::is_within), as a
    -- count tells.
    pub within : (old new : StoreSeen) (counts : Counts) → CountsStore old new counts → counts.values ≤ old.capacity
