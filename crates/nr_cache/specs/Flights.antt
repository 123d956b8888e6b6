-- What contracts see of the flights, and what each call of them does.
use Rattle.std.specs.Prelude.{◌≡◌, ℕ, ◌+◌, ◌≤◌, ◌<◌, ◌^◌, ◌-◌, ◌==◌, ◌⊎◌, Bool, true, false, List, [], ◌∷◌, ◌++◌}
use Rattle.std.specs.Prelude.{length, Option, Some, None}
use Rattle.std.specs.Prelude.{position, is_some, map, slice_index_or, slice_set, remove}
use Rattle.nr_cache.specs.declared.flights.Flight.{Flight}
use Rattle.nr_cache.specs.declared.flights.Fate.{Fate}
use Rattle.nr_cache.specs.declared.flights.Fate.TheVariants.{Hold, Outdated}

-- the flights, how many have begun, the ids that are being changed, each as often as it is, and how many of both there
-- may be
pub record Underway : Type 0 where
  pub flights : List Flight
  pub begun : ℕ
  pub changing : List ℕ
  pub room : ℕ
  pub changes : ℕ

abbrev pub none_under_way : ℕ → ℕ → Underway
none_under_way room changes = record { flights = []; begun = 0; changing = []; room = room; changes = changes }

abbrev pub is_of : ℕ → Flight → Bool
is_of id = λ flight. flight.id == id

abbrev pub has_number : ℕ → Flight → Bool
has_number number = λ flight. flight.number == number

abbrev pub is_id : ℕ → ℕ → Bool
is_id id = λ other. other == id

-- the id has no flight
abbrev pub IsFree : ℕ → Underway → Type 0
IsFree id old = position (is_of id) old.flights ≡ None

-- whether the id is being changed
abbrev pub is_changing : ℕ → Underway → Bool
is_changing id old = is_some (position (is_id id) old.changing)

-- the first that passes the test
abbrev pub IsFirst : (Flight → Bool) → List Flight → ℕ → Flight → Type 0
IsFirst test flights place flight =
    (position test flights ≡ Some place) × (place < length flights) × (slice_index_or flights place flight ≡ flight)

abbrev pub FindsFlight : ℕ → Underway → Option Flight → Type 0
FindsFlight id old (Some flight) = (place : ℕ) × IsFirst (is_of id) old.flights place flight
FindsFlight id old None = IsFree id old

-- a flight whose id is being changed is outdated from its beginning on
abbrev pub fate_of : Bool → Fate
fate_of true = Outdated
fate_of false = Hold

abbrev pub last_flight : ℕ
last_flight = 2 ^ 64 - 1

-- there is no room for another, or as many have begun as have numbers
abbrev pub IsFull : Underway → Type 0
IsFull old = (old.room ≤ length old.flights) ⊎ (old.begun ≡ last_flight)

abbrev pub Begins : ℕ → ℕ → Underway → Underway → Option Flight → Type 0
Begins id mark old new (Some flight) =
    (flight ≡ record { id = id; number = old.begun + 1; mark = mark; fate = fate_of (is_changing id old) })
    × (length old.flights < old.room)
    × (new ≡ record old { flights = old.flights ++ flight ∷ []; begun = old.begun + 1 })
Begins id mark old new None = IsFull old × (new ≡ old)

-- the flight of that number ends, or there is none
abbrev pub Ends : ℕ → Underway → Underway → Option Flight → Type 0
Ends number old new (Some flight) =
    (place : ℕ) × IsFirst (has_number number) old.flights place flight
    × (new ≡ record old { flights = remove old.flights place })
Ends number old new None = (position (has_number number) old.flights ≡ None) × (new ≡ old)

-- the flight that began first of those under way ends, or none is under way
abbrev pub EndsOldest : Underway → Underway → Option Flight → Type 0
EndsOldest old new (Some flight) =
    (later : List Flight) × (old.flights ≡ flight ∷ later) × (new ≡ record old { flights = later })
EndsOldest old new None = (old.flights ≡ []) × (new ≡ old)

abbrev pub outdated : Flight → Flight
outdated flight = record flight { fate = Outdated }

-- the id's flight is outdated, or it has none
abbrev pub Outdates : ℕ → Underway → Underway → Option Flight → Type 0
Outdates id old new (Some flight) =
    (place : ℕ) × IsFirst (is_of id) old.flights place flight
    × (new ≡ record old { flights = slice_set old.flights place (outdated flight) })
Outdates id old new None = IsFree id old × (new ≡ old)

-- all are
abbrev pub OutdatesAll : Underway → Underway → Type 0
OutdatesAll old new = new ≡ record old { flights = map outdated old.flights }

abbrev pub BeginsChange : ℕ → Underway → Underway → Bool → Type 0
BeginsChange id old new true =
    (length old.changing < old.changes) × (new ≡ record old { changing = old.changing ++ id ∷ [] })
BeginsChange id old new false = (old.changes ≤ length old.changing) × (new ≡ old)

abbrev pub EndsChange : ℕ → Underway → Underway → Bool → Type 0
EndsChange id old new true =
    (place : ℕ) × (position (is_id id) old.changing ≡ Some place)
    × (new ≡ record old { changing = remove old.changing place })
EndsChange id old new false = (position (is_id id) old.changing ≡ None) × (new ≡ old)
