-- A cache as C calls it.
use Rattle.std.specs.Prelude.{ℕ, ◌≡◌, if◌then◌else◌, Option, Some, None}
use Rattle.nr_cache.specs.declared.counts.Counts.{Counts}
use Rattle.nr_cache.specs.declared.finds.FoundValue.{FoundValue}
use Rattle.nr_cache.specs.declared.flights.Flight.{Flight}
use Rattle.nr_cache.specs.declared.given.GivenValue.{GivenValue}
use Rattle.nr_cache.specs.declared.store.Begun.{Begun}
use Rattle.nr_cache.specs.declared.store.Begun.TheVariants as begun
use Rattle.nr_cache.specs.declared.store.Landed.{Landed}
use Rattle.nr_cache.specs.declared.store.Landed.TheVariants as landed
use Rattle.nr_cache.specs.declared.swaps.Swapped.{Swapped}
use Rattle.nr_cache.specs.declared.swaps.Swapped.TheVariants as swapped
use Rattle.nr_cache.specs.Counts.{CountsStore}
use Rattle.nr_cache.specs.Finds.{FindsValue, HoldsValue}
use Rattle.nr_cache.specs.Firsts.{EvictsOne}
use Rattle.nr_cache.specs.Flights.{EndsChange}
use Rattle.nr_cache.specs.GivenValues.{ShowsValue}
use Rattle.nr_cache.specs.StoreSeen.{StoreSeen}
use Rattle.nr_cache.specs.Stores.{BeginsFlight, ChangesId, Evicts, Fails, FailsOldest, Invalidates, InvalidatesAll}
use Rattle.nr_cache.specs.Stores.{Lands, Looks, Puts, Reaps}
use Rattle.nr_cache.specs.Swaps.{Swaps}
use Rattle.nr_idmap.specs.IdHands.{IdHanded}
use Rattle.nr_c.specs.declared.cache_flight.NrFlight.{NrFlight}
use Rattle.nr_c.specs.declared.cache_looks.NrCacheCounts.{NrCacheCounts}
use Rattle.nr_c.specs.declared.cache_side.CacheSide.{CacheSide}
use Rattle.nr_c.specs.Codes.{ByCode, reaped_code, reclaimed_code}
use Rattle.nr_c.specs.IdLive.{WithId, WithNumber}
use Rattle.nr_c.specs.Live.{Call, Turns, WhenLive}
use Rattle.nr_c.specs.Numbers.{answer_bad_row, answer_done, answer_evicted, answer_full, answer_hole, answer_nothing}
use Rattle.nr_c.specs.Numbers.{answer_other, answer_own, answer_rows, answer_send, answer_waiting}

-- the handle leads to one side, of the same map, whose store made the call; its readers without a handle stay, and it
-- isn't closed
abbrev pub CacheCalls : (StoreSeen → StoreSeen → ℕ → Type 0) → Call CacheSide
CacheCalls became before after code =
    Turns (λ old new. (new.map ≡ old.map) × (new.watch ≡ old.watch) × (new.spare ≡ old.spare))
    (λ old new. became old.store new.store code) before after

-- a call that brings a value of an id: it is refused for the id 0, and then for the stamp 0
abbrev pub BringsToCache : ℕ → ℕ → Type 0 → (StoreSeen → StoreSeen → ℕ → Type 0) → Call CacheSide
BringsToCache id stamp stays does =
    WhenLive stays (WithId id stays (WithNumber answer_bad_row stamp stays (CacheCalls does)))

-- A FIND, AND A LOOK
abbrev pub found_value_code : Option FoundValue → ℕ
found_value_code (Some found) = answer_rows
found_value_code None = answer_hole

-- the value that was found, or what stood there
abbrev pub value_told : FoundValue → Option FoundValue → FoundValue
value_told stood (Some found) = found
value_told stood None = stood

abbrev pub FindsValueByCode : ℕ → FoundValue → FoundValue → IdHanded → IdHanded → ℕ → Type 0
FindsValueByCode id stood stands old new =
    ByCode found_value_code (λ value. FindsValue id old new value × (stands ≡ value_told stood value))

abbrev pub HoldsValueByCode : ℕ → FoundValue → FoundValue → IdHanded → IdHanded → ℕ → Type 0
HoldsValueByCode id stood stands old new =
    ByCode found_value_code (λ value. HoldsValue id old new value × (stands ≡ value_told stood value))

abbrev pub LooksByValueCode : ℕ → FoundValue → FoundValue → StoreSeen → StoreSeen → ℕ → Type 0
LooksByValueCode id stood stands old new =
    ByCode found_value_code (λ value. Looks id old new value × (stands ≡ value_told stood value))

abbrev pub counts_of : Counts → NrCacheCounts
counts_of counts =
    record { values = counts.values; weight = counts.weight; flights = counts.flights; changes = counts.changes }

abbrev pub CountsCache : NrCacheCounts → StoreSeen → StoreSeen → ℕ → Type 0
CountsCache told old new code =
    (counts : Counts) × (code ≡ answer_done) × CountsStore old new counts × (told ≡ counts_of counts)

-- A MISS, AND A FLIGHT'S END WITHOUT A VALUE
abbrev pub flight_of : Flight → NrFlight
flight_of flight = record { number = flight.number; mark = flight.mark }

abbrev pub begun_code : Begun → ℕ
begun_code begun.Held = answer_rows
begun_code (begun.Wait flight) = answer_waiting
begun_code (begun.Load flight) = answer_send
begun_code begun.Alone = answer_full

-- the flight that is told, or what stood there
abbrev pub begun_told : NrFlight → Begun → NrFlight
begun_told stood begun.Held = stood
begun_told stood (begun.Wait flight) = flight_of flight
begun_told stood (begun.Load flight) = flight_of flight
begun_told stood begun.Alone = stood

abbrev pub BeginsByCode : ℕ → ℕ → NrFlight → NrFlight → StoreSeen → StoreSeen → ℕ → Type 0
BeginsByCode id mark stood stands old new =
    ByCode begun_code (λ answer. BeginsFlight id mark old new answer × (stands ≡ begun_told stood answer))

abbrev pub ended_code : Option Flight → ℕ
ended_code (Some flight) = answer_done
ended_code None = answer_nothing

abbrev pub flight_told : NrFlight → Option Flight → NrFlight
flight_told stood (Some flight) = flight_of flight
flight_told stood None = stood

abbrev pub FailsByCode : ℕ → NrFlight → NrFlight → StoreSeen → StoreSeen → ℕ → Type 0
FailsByCode number stood stands old new =
    ByCode ended_code (λ ended. Fails number old new ended × (stands ≡ flight_told stood ended))

abbrev pub FailsOldestByCode : NrFlight → NrFlight → StoreSeen → StoreSeen → ℕ → Type 0
FailsOldestByCode stood stands old new =
    ByCode ended_code (λ ended. FailsOldest old new ended × (stands ≡ flight_told stood ended))

-- CHANGES OF THE BASE
abbrev pub ChangesByCode : ℕ → StoreSeen → StoreSeen → ℕ → Type 0
ChangesByCode id old new = ByCode (λ begun. if begun then answer_done else answer_full) (ChangesId id old new)

abbrev pub EndsChangeByCode : ℕ → StoreSeen → StoreSeen → ℕ → Type 0
EndsChangeByCode id old new =
    ByCode (λ ended. if ended then answer_done else answer_nothing)
    (λ ended. EndsChange id old.underway new.underway ended × (new ≡ record old { underway = new.underway }))

-- VALUES
abbrev pub landed_code : Landed → ℕ
landed_code (landed.Held given) = reclaimed_code given
landed_code landed.Own = answer_own

abbrev pub LandsByCode : ℕ → ℕ → ℕ → ℕ → ℕ → GivenValue → GivenValue → StoreSeen → StoreSeen → ℕ → Type 0
LandsByCode number stamp value weight bound before after old new =
    ByCode landed_code (Lands ShowsValue number stamp value weight bound old before new after)

abbrev pub PutsByCode : ℕ → ℕ → ℕ → ℕ → ℕ → GivenValue → GivenValue → StoreSeen → StoreSeen → ℕ → Type 0
PutsByCode id stamp value weight bound before after old new =
    ByCode landed_code (Puts ShowsValue id stamp value weight bound old before new after)

abbrev pub swapped_code : Swapped → ℕ
swapped_code (swapped.Held given) = reclaimed_code given
swapped_code swapped.Own = answer_own
swapped_code (swapped.Other found) = answer_other
swapped_code swapped.Absent = answer_hole

abbrev pub SwapsByCode : ℕ → ℕ → ℕ → ℕ → ℕ → ℕ → GivenValue → GivenValue → StoreSeen → StoreSeen → ℕ → Type 0
SwapsByCode id was stamp value weight bound before after old new =
    ByCode swapped_code (Swaps ShowsValue id was stamp value weight bound old before new after)

abbrev pub InvalidatesByCode : ℕ → StoreSeen → StoreSeen → ℕ → Type 0
InvalidatesByCode id old new = ByCode (λ had. if had then answer_evicted else answer_nothing) (Invalidates id old new)

abbrev pub ReapsByCode : GivenValue → GivenValue → StoreSeen → StoreSeen → ℕ → Type 0
ReapsByCode before after old new = ByCode reaped_code (Reaps ShowsValue old before new after)

abbrev pub EvictsValueByCode : ℕ → StoreSeen → StoreSeen → ℕ → Type 0
EvictsValueByCode id old new = ByCode (λ had. if had then answer_evicted else answer_nothing) (Evicts id old new)

abbrev pub taken_code : Option GivenValue → ℕ
taken_code (Some taken) = answer_evicted
taken_code None = answer_nothing

-- the value that was taken, or what stood there
abbrev pub taken_told : GivenValue → Option GivenValue → GivenValue
taken_told stood (Some taken) = taken
taken_told stood None = stood

abbrev pub EvictsOneByCode : ℕ → GivenValue → GivenValue → StoreSeen → StoreSeen → ℕ → Type 0
EvictsOneByCode bound stood stands old new =
    ByCode taken_code (λ taken. EvictsOne bound old new taken × (stands ≡ taken_told stood taken))

abbrev pub InvalidatesAllByCode : StoreSeen → StoreSeen → ℕ → Type 0
InvalidatesAllByCode old new code = (code ≡ answer_done) × InvalidatesAll old new
