-- A store's calls in a row.
use Rattle.std.proofs.Common.{◌≡◌, ℕ, Bool, true, false, List, [], ◌∷◌, ◌++◌, Option, Some, None, inl, inr, sym, ap}
use Rattle.std.proofs.Common.{arith, cond, length, refl, subst, ◌∙◌}
use Rattle.std.specs.List.{position, remove}
use Rattle.std.proofs.lemmas.Bool.{eq-eqb, lt-ltb}
use Rattle.nr_model.specs.declared.rows.Row.{Row}
use Rattle.nr_map.specs.GivenBack as map
use Rattle.nr_map.specs.GivenBack.{EachSetComesOutOnce}
use Rattle.nr_map.specs.Remains.{Given}
use Rattle.nr_cache.specs.declared.finds.FoundValue.{FoundValue}
use Rattle.nr_cache.specs.declared.flights.Flight.{Flight}
use Rattle.nr_cache.specs.declared.store.Begun.{Begun}
use Rattle.nr_cache.specs.declared.store.Begun.TheVariants as begun
use Rattle.nr_cache.specs.Flights.{Ends, EndsOldest, IsFirst, Outdates, Underway, has_number}
use Rattle.nr_cache.specs.Histories.{AllInvalidated, Began, ChangeBegan, ChangeEnded, Does, Ended, Event, Invalidated}
use Rattle.nr_cache.specs.Histories as flights
use Rattle.nr_cache.specs.Moves.{Moves}
use Rattle.nr_cache.specs.StoreSeen.{StoreSeen, stock_in}
use Rattle.nr_cache.specs.StoreRuns as runs
use Rattle.nr_cache.specs.StoreRuns.{Calls, EachValueComesOutOnce, HoldsFresh, StoreRun, StoresInOrder, began_by}
use Rattle.nr_cache.specs.StoreRuns.{changed_by, ended_by}
use Rattle.nr_cache.specs.Stores.{BeginsFlight, ChangesId, LandsOwn, Looks, PutsOwn}
use Rattle.nr_cache.specs.Weights.{Stock}
use Rattle.nr_cache.proofs.InOrder.{each_flight_ends_once_lem, held_is_fresh_lem}
use Rattle.nr_cache.proofs.Quiets.{each_quiet, first_quiet, look_quiet, loses_quiet, no_place_quiet, stays_quiet}
use Rattle.nr_cache.proofs.Quiets.{IsQuiet, goes_on_lem, moves_then, quiet_learnt, quiet_same}

-- the first of them is the first that has its number
oldest_ends : (old new : Underway) (flight : Flight) → EndsOldest old new (Some flight)
    → Ends flight.number old new (Some flight)
oldest_ends old new flight ends =
    let (later, had, is) = ends in
    let same = eq-eqb flight.number flight.number refl in
    let some = lt-ltb 0 (length (flight ∷ later)) (omega arith) in
    let first : position (has_number flight.number) (flight ∷ later) ≡ Some 0
    = rw same (subst (λ (b : Bool). cond {A = Option ℕ} b (Some 0) None ≡ Some 0) (sym some) refl) in (
      0,
      subst (λ (flights : List Flight). IsFirst (has_number flight.number) flights 0 flight) (sym had)
          (first, omega arith, refl),
      is ∙ subst (λ (flights : List Flight). record old { flights = later } ≡ record old { flights = remove flights 0 })
          (sym had) refl,
    )

-- what changes nothing but what is under way
only_flights : (old new : StoreSeen) → new ≡ record old { underway = new.underway }
    → IsQuiet old.keeper.writer new.keeper.writer
only_flights old new rest = quiet_same (ap (λ (s : StoreSeen). s.keeper.writer) rest)

module _ {Room : Type 0} (shows : Room → List Row → Type 0) where
  own_quiet : {number weight : ℕ} {old new : StoreSeen} {before room : Room}
      → LandsOwn shows number weight old before new room → IsQuiet old.keeper.writer new.keeper.writer
  own_quiet lands = elim lands.why [
    | inl late ↦ quiet_same (ap (λ (s : Stock). s.keeper.writer) late.1)
    | inr place ↦ no_place_quiet place.4
  ]

  put_own_quiet : {id weight : ℕ} {old new : StoreSeen} {before room : Room}
      → PutsOwn shows id weight old before new room → IsQuiet old.keeper.writer new.keeper.writer
  put_own_quiet {id} {old = old} {new = new} puts = elim puts.why [
    | inl changed ↦ loses_quiet id old.keeper new.keeper changed.1.0 changed.1.1
    | inr place ↦ no_place_quiet place.2
  ]

  -- A CALL
  -- what it does to any history of the flights, and to the map's writer
  record Goes (old : StoreSeen) (events : List Event) (put : List (List Row)) (out : List Given) (new : StoreSeen)
      : Type 0 where
    pub loads : (history : List Event) → flights.Run history old.underway
        → flights.Run (events ++ history) new.underway
    pub sets : Moves shows old.keeper.writer put out new.keeper.writer

  -- no event, and one
  none : (old new : StoreSeen) → new.underway ≡ old.underway → IsQuiet old.keeper.writer new.keeper.writer
      → Goes old [] [] [] new
  none old new same quiet = record {
    loads = λ history run. subst (flights.Run history) (sym same) run;
    sets = quiet.moves shows;
  }

  one : {put : List (List Row)} {out : List Given} (event : Event) (old new : StoreSeen)
      → Does event old.underway new.underway → Moves shows old.keeper.writer put out new.keeper.writer
      → Goes old (event ∷ []) put out new
  one event old new does moves = record {
    loads = λ history run. flights.Goes history event old.underway new.underway run does;
    sets = moves;
  }

  -- after a call without an event
  after : {old mid new : StoreSeen} {events : List Event} {put : List (List Row)} {out : List Given}
      → Goes old [] [] [] mid → Goes mid events put out new → Goes old events put out new
  after first last = record {
    loads = λ history run. last.loads history (first.loads history run);
    sets = moves_then shows first.sets last.sets;
  }

  begins : (id mark : ℕ) (old new : StoreSeen) (answer : Begun) → BeginsFlight id mark old new answer
      → Goes old (began_by answer) [] [] new
  begins id mark old new (begun.Load flight) does =
      one (Began flight) old new (id, mark, does.0, does.2) ((stays_quiet does.3.0.1).moves shows)
  begins id mark old new (begun.Wait flight) does =
      none old new (ap (λ (s : StoreSeen). s.underway) does.1)
      (quiet_same (ap (λ (s : StoreSeen). s.keeper.writer) does.1))
  begins id mark old new begun.Held does = none old new does.2 (stays_quiet does.4.0.1)
  begins id mark old new begun.Alone does = none old new does.3 (stays_quiet does.4.0.1)

  ends : (number : ℕ) (old new : StoreSeen) (found : Option Flight) → Ends number old.underway new.underway found
      → IsQuiet old.keeper.writer new.keeper.writer → Goes old (ended_by found) [] [] new
  ends number old new (Some flight) does quiet = one (Ended flight) old new (number, does) (quiet.moves shows)
  ends number old new None does quiet = none old new does.1 quiet

  ends_oldest : (old new : StoreSeen) (found : Option Flight) → EndsOldest old.underway new.underway found
      → IsQuiet old.keeper.writer new.keeper.writer → Goes old (ended_by found) [] [] new
  ends_oldest old new (Some flight) does quiet =
      one (Ended flight) old new (flight.number, oldest_ends old.underway new.underway flight does) (quiet.moves shows)
  ends_oldest old new None does quiet = none old new does.1 quiet

  changes : (id : ℕ) (old new : StoreSeen) (told : Bool) → ChangesId id old new told
      → Goes old (changed_by id told) [] [] new
  changes id old new true does =
      one (ChangeBegan id) old new (does.found, does.mid, does.outdates, does.begins)
      ((only_flights old new does.rest).moves shows)
  changes id old new false does =
      one (Invalidated id) old new
      (does.found, subst (λ (b : Underway). Outdates id old.underway b does.found) (sym does.begins.1) does.outdates)
      ((only_flights old new does.rest).moves shows)

  looked : (id : ℕ) (old new : StoreSeen) (found : Option FoundValue) → Looks id old new found → Goes old [] [] [] new
  looked id old new found looks = none old new looks.1 (look_quiet id old.keeper new.keeper found looks.0)

  goes : {old new : StoreSeen} {events : List Event} {put : List (List Row)} {out : List Given}
      → Calls shows old events put out new → Goes old events put out new
  goes (runs.Begins id mark old new answer does) = begins id mark old new answer does
  goes (runs.LandsIt number stamp value weight bound old new before room given lands) =
      one (Ended lands.flight) old new (number, lands.ends) lands.holds.moves
  goes (runs.LandsNone number weight old new before room lands) =
      ends number old new lands.found lands.ends (own_quiet lands)
  goes (runs.FailsIt number old new found fails) =
      ends number old new found fails.ends (only_flights old new fails.rest)
  goes (runs.FailsFirst old new found fails) =
      ends_oldest old new found fails.ends (only_flights old new fails.rest)
  goes (runs.InvalidatesIt id old new had does) =
      one (Invalidated id) old new (does.found, does.outdates)
      ((loses_quiet id old.keeper new.keeper had does.takes).moves shows)
  goes (runs.PutsIt id stamp value weight bound old new before room given puts) =
      one (Invalidated id) old new (puts.found, puts.outdates) puts.holds.moves
  goes (runs.PutsNone id weight old new before room puts) =
      one (Invalidated id) old new (puts.found, puts.outdates) ((put_own_quiet puts).moves shows)
  goes (runs.ChangeBegins id old new told does) = changes id old new told does
  goes (runs.ChangeEnds id old new does rest) =
      one (ChangeEnded id) old new does ((only_flights old new rest).moves shows)
  goes (runs.LooksIt id old new found looks) = looked id old new found looks
  goes (runs.SwapsIt id was stamp value weight bound old new before room given swaps) =
      let puts = swaps.puts in
      after (looked id old swaps.mid (Some swaps.finds.found) swaps.finds.looks)
      (one (Invalidated id) swaps.mid new (puts.found, puts.outdates) puts.holds.moves)
  goes (runs.SwapsNone id was weight old new before room swaps) =
      let puts = swaps.puts in
      after (looked id old swaps.mid (Some swaps.finds.found) swaps.finds.looks)
      (one (Invalidated id) swaps.mid new (puts.found, puts.outdates) ((put_own_quiet puts).moves shows))
  goes (runs.EvictsIt id old new had evicts) =
      none old new evicts.rest.0 (loses_quiet id old.keeper new.keeper had evicts.takes)
  goes (runs.EvictsFirst bound old new given evicts) =
      none old new evicts.rest.0 (first_quiet bound (stock_in old) (stock_in new) given evicts.takes)
  goes (runs.InvalidatesEach old new does) =
      one AllInvalidated old new does.outdates ((each_quiet does.takes).moves shows)
  goes (runs.CountsIt old new counts does) = none old new does.rest.0 (quiet_learnt does.values.learns)
  goes (runs.ReapsIt old new before room answer reaps) = record {
    loads = λ history run. subst (flights.Run history) (sym reaps.rest.0) run;
    sets = reaps.moves;
  }

  -- ANY CALLS
  -- the flights after them, and the map's writer
  record Went (history : List Event) (put : List (List Row)) (given : List Given) (store : StoreSeen) : Type 0 where
    pub loads : flights.Run history store.underway
    pub sets : map.Run shows store.keeper.writer put given

  went : {history : List Event} {put : List (List Row)} {given : List Given} {store : StoreSeen}
      → StoreRun shows history put given store → Went history put given store
  went (runs.Opens room changes store none_yet opened) =
      record { loads = subst (flights.Run []) (sym none_yet) (flights.Opens room changes); sets = opened }
  went (runs.Goes history events put more given out old new run calls) =
      let before = went run in
      let step = goes calls in
      record {
        loads = step.loads history before.loads;
        sets = goes_on_lem shows old.keeper.writer new.keeper.writer put more given out before.sets step.sets;
      }

  pub stores_in_order_lem : StoresInOrder shows
  stores_in_order_lem history put given store run = each_flight_ends_once_lem history store.underway (went run).loads

  pub holds_fresh_lem : HoldsFresh shows
  holds_fresh_lem history put given number stamp value weight bound old new before room some run lands =
      held_is_fresh_lem history old.underway new.underway lands.flight (went run).loads (number, lands.ends) lands.fated

  pub each_value_comes_out_once_lem : EachSetComesOutOnce shows → EachValueComesOutOnce shows
  each_value_comes_out_once_lem law history put given rest store left run apart out =
      law store.keeper.writer put given rest left (went run).sets apart out
