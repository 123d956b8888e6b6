-- What happened to the flights of a store, the latest first, and what follows for each.
use Rattle.std.specs.Prelude.{◌≡◌, ◌≢◌, ℕ, ◌+◌, ◌-◌, ◌≤◌, ◌==◌, if◌then◌else◌, true, List, [], ◌∷◌, ◌⊎◌, Some}
use Rattle.std.specs.Prelude.{AllPairs, Contains, Option, count_by}
use Rattle.nr_cache.specs.declared.flights.Flight.{Flight}
use Rattle.nr_cache.specs.declared.flights.Fate.TheVariants.{Hold}
use Rattle.nr_cache.specs.Flights.{Begins, BeginsChange, Ends, EndsChange, IsFree, Outdates, OutdatesAll, Underway}
use Rattle.nr_cache.specs.Flights.{has_number, none_under_way}

pub data Event : Type 0 where
  -- a flight began, and ended
  Began : Flight → Event
  Ended : Flight → Event
  -- an id was invalidated or put, and all ids were
  Invalidated : ℕ → Event
  AllInvalidated : Event
  -- a change of an id began, and ended
  ChangeBegan : ℕ → Event
  ChangeEnded : ℕ → Event

-- by that call
abbrev pub Does : Event → Underway → Underway → Type 0
Does (Began flight) old new = (id : ℕ) × (mark : ℕ) × IsFree id old × Begins id mark old new (Some flight)
Does (Ended flight) old new = (number : ℕ) × Ends number old new (Some flight)
Does (Invalidated id) old new = (found : Option Flight) × Outdates id old new found
Does AllInvalidated old new = OutdatesAll old new
Does (ChangeBegan id) old new =
    (found : Option Flight) × (mid : Underway) × Outdates id old mid found × BeginsChange id mid new true
Does (ChangeEnded id) old new = EndsChange id old new true

-- any calls from the opening on
pub data Run : List Event → Underway → Type 0 where
  Opens : (room changes : ℕ) → Run [] (none_under_way room changes)
  Goes : (history : List Event) (event : Event) (old new : Underway) → Run history old → Does event old new
      → Run (event ∷ history) new

abbrev pub times_begun : ℕ → List Event → ℕ
times_begun number [] = 0
times_begun number (Began flight ∷ earlier) = (if flight.number == number then 1 else 0) + times_begun number earlier
times_begun number (_ ∷ earlier) = times_begun number earlier

abbrev pub times_ended : ℕ → List Event → ℕ
times_ended number [] = 0
times_ended number (Ended flight ∷ earlier) = (if flight.number == number then 1 else 0) + times_ended number earlier
times_ended number (_ ∷ earlier) = times_ended number earlier

-- how many changes of the id are under way
abbrev pub changes_of : ℕ → List Event → ℕ
changes_of id [] = 0
changes_of id (ChangeBegan other ∷ earlier) = (if other == id then 1 else 0) + changes_of id earlier
changes_of id (ChangeEnded other ∷ earlier) = changes_of id earlier - (if other == id then 1 else 0)
changes_of id (_ ∷ earlier) = changes_of id earlier

-- the flight began while no change of its id was under way, and since then its id was neither invalidated nor put, and
-- no change of it began
abbrev pub IsFresh : Flight → List Event → Type 0
IsFresh flight [] = ⊥
IsFresh flight (Began other ∷ earlier) =
    ((other ≡ flight) × (changes_of flight.id earlier ≡ 0)) ⊎ IsFresh flight earlier
IsFresh flight (Ended other ∷ earlier) = IsFresh flight earlier
IsFresh flight (Invalidated id ∷ earlier) = (id ≢ flight.id) × IsFresh flight earlier
IsFresh flight (AllInvalidated ∷ earlier) = ⊥
IsFresh flight (ChangeBegan id ∷ earlier) = (id ≢ flight.id) × IsFresh flight earlier
IsFresh flight (ChangeEnded id ∷ earlier) = IsFresh flight earlier

-- two flights are of two ids
abbrev pub Differ : Flight → Flight → Type 0
Differ flight other = flight.id ≢ other.id

-- After any calls: of each id one flight at most is under way, and no more than there is room for; each flight that
-- began has ended once or is under way; and one whose value is to be held is fresh.
pub record IsInOrder (history : List Event) (now : Underway) : Type 0 where
  pub one : AllPairs Differ now.flights
  pub once : (number : ℕ) → times_begun number history ≤ 1
  pub each : (number : ℕ) → times_begun number history
      ≡ times_ended number history + count_by (has_number number) now.flights
  pub fresh : (flight : Flight) → Contains now.flights flight → flight.fate ≡ Hold → IsFresh flight history

abbrev pub EachFlightEndsOnce : Type 0
EachFlightEndsOnce = (history : List Event) (now : Underway) → Run history now → IsInOrder history now

-- a flight whose value is held: nothing came between
abbrev pub HeldIsFresh : Type 0
HeldIsFresh =
    (history : List Event) (old new : Underway) (flight : Flight) → Run history old → Does (Ended flight) old new
    → flight.fate ≡ Hold → IsFresh flight history
