-- Each call of a store adds to what was done, and what it holds is fresh.
use Rattle.std.proofs.Common.{◌≡◌, ℕ, Bool, inl, inr, List, [], ◌∷◌, ◌++◌, Option, Some, None, get_or, refl, sym, ap}
use Rattle.std.proofs.Common.{◌∙◌, subst}
use Rattle.std.specs.List.{AllPairs}
use Rattle.std.proofs.lemmas.Bool.{eqb-true}
use Rattle.std.proofs.lemmas.List.Quantifiers.{position-Some}
use mathlib.Core.Logic.{∥∥₁_elim}
use Rattle.nr_model.specs.declared.rows.Row.{Row}
use Rattle.nr_board.specs.declared.answers.Reclaimed.{Reclaimed}
use Rattle.nr_map.specs.GivenBack as sets
use Rattle.nr_map.specs.Remains.{Given}
use Rattle.nr_idmap.specs.Keepers.{IdCaller, IdTable}
use Rattle.nr_cache.specs.declared.finds.FoundValue.{FoundValue}
use Rattle.nr_cache.specs.declared.flights.Flight.{Flight}
use Rattle.nr_cache.specs.declared.given.GivenValue.{GivenValue}
use Rattle.nr_cache.specs.declared.shape.StoreShape.{StoreShape}
use Rattle.nr_cache.specs.declared.store.Begun.{Begun}
use Rattle.nr_cache.specs.declared.store.Begun.TheVariants as begun
use Rattle.nr_cache.specs.declared.store.Landed.{Landed}
use Rattle.nr_cache.specs.declared.store.Landed.TheVariants as landed
use Rattle.nr_cache.specs.Flights.{Ends, Underway, has_number}
use Rattle.nr_cache.specs.GivenValues.{ShowsValue}
use Rattle.nr_cache.specs.Histories as happened
use Rattle.nr_cache.specs.Histories.{Differ, Event}
use Rattle.nr_cache.specs.Openings.{OpensStore}
use Rattle.nr_cache.specs.StoreRuns as runs
use Rattle.nr_cache.specs.StoreRuns.{Calls, HoldsFresh, StoresInOrder, ended_by}
use Rattle.nr_cache.specs.StoreSeen.{StoreSeen}
use Rattle.nr_cache.specs.Stores.{BeginsFlight, Evicts, Fails, Invalidates, Lands, LandsHeld, Looks}
use Rattle.nr_cache.specs.Values.{set_of}
use Rattle.nr_tour.specs.declared.cache.deeds.Deed.{Deed}
use Rattle.nr_tour.specs.declared.cache.deeds.Deed.TheVariants.{Began, Held, Invalidated}
use Rattle.nr_tour.specs.Deeds.{Did, IsFresh, but_held, told_by, with_begun, with_landed}

-- WHAT THE RUN SAYS, OF THE DEEDS
told_fresh : (flight : Flight) (events : List Event) → happened.IsFresh flight events → IsFresh flight (told_by events)
told_fresh flight [] fresh = fresh
told_fresh flight (happened.Began other ∷ earlier) (inl now) = inl now.0
told_fresh flight (happened.Began other ∷ earlier) (inr before) = inr (told_fresh flight earlier before)
told_fresh flight (happened.Ended other ∷ earlier) fresh = told_fresh flight earlier fresh
told_fresh flight (happened.Invalidated id ∷ earlier) fresh = (fresh.0, told_fresh flight earlier fresh.1)
told_fresh flight (happened.AllInvalidated ∷ earlier) fresh = absurd fresh
told_fresh flight (happened.ChangeBegan id ∷ earlier) fresh = told_fresh flight earlier fresh.1
told_fresh flight (happened.ChangeEnded id ∷ earlier) fresh = told_fresh flight earlier fresh

fresh_beside_held : (flight : Flight) (deeds : List Deed) → IsFresh flight (but_held deeds) → IsFresh flight deeds
fresh_beside_held flight [] fresh = fresh
fresh_beside_held flight (Began other ∷ earlier) (inl now) = inl now
fresh_beside_held flight (Began other ∷ earlier) (inr before) = inr (fresh_beside_held flight earlier before)
fresh_beside_held flight (Held number ∷ earlier) fresh = fresh_beside_held flight earlier fresh
fresh_beside_held flight (Invalidated id ∷ earlier) fresh = (fresh.0, fresh_beside_held flight earlier fresh.1)

ends_its_own : (number : ℕ) (old new : Underway) (flight : Flight) → Ends number old new (Some flight)
    → flight.number ≡ number
ends_its_own number old new flight ends =
    let passes = (position-Some (has_number number) old.flights ends.0 flight ends.1.0).1 in
    ap (λ (f : Flight). f.number) (sym ends.1.2)
    ∙ eqb-true (get_or old.flights ends.0 flight).number number passes

-- EACH CALL
-- a call of which nothing is told
goes : (deeds : List Deed) (events : List Event) (put : List (List Row)) (out : List Given) (old new : StoreSeen)
    → (did : Did deeds old) → Calls ShowsValue old events put out new
    → told_by (events ++ did.history) ≡ told_by did.history → Did deeds new
goes deeds events put out old new did calls untold =
    record {
      history = events ++ did.history;
      put = did.put ++ put;
      given = did.given ++ out;
      run = runs.Goes did.history events did.put put did.given out old new did.run calls;
      told = untold ∙ did.told;
      fresh = did.fresh;
    }

end_untold : (found : Option Flight) (earlier : List Event) → told_by (ended_by found ++ earlier) ≡ told_by earlier
end_untold (Some flight) earlier = refl
end_untold None earlier = refl

pub begins_so : (id mark : ℕ) (deeds : List Deed) (old new : StoreSeen) (answer : Begun)
    → BeginsFlight id mark old new answer → Did deeds old → Did (with_begun answer deeds) new
begins_so id mark deeds old new (begun.Load flight) begins did =
    record {
      history = happened.Began flight ∷ did.history;
      put = did.put ++ [];
      given = did.given ++ [];
      run = runs.Goes did.history (happened.Began flight ∷ []) did.put [] did.given [] old new did.run
          (runs.Begins id mark old new (begun.Load flight) begins);
      told = ap (λ (more : List Deed). Began flight ∷ more) did.told;
      fresh = did.fresh;
    }
begins_so id mark deeds old new begun.Held begins did =
    goes deeds [] [] [] old new did (runs.Begins id mark old new begun.Held begins) refl
begins_so id mark deeds old new (begun.Wait flight) begins did =
    goes deeds [] [] [] old new did (runs.Begins id mark old new (begun.Wait flight) begins) refl
begins_so id mark deeds old new begun.Alone begins did =
    goes deeds [] [] [] old new did (runs.Begins id mark old new begun.Alone begins) refl

-- what is held is fresh, as a law of the store says
held_so : HoldsFresh ShowsValue → (deeds : List Deed) (number stamp value weight bound : ℕ) (old new : StoreSeen)
    (before room : GivenValue) (given : Reclaimed)
    → LandsHeld ShowsValue number stamp value weight bound old before new room given → Did deeds old
    → Did (Held number ∷ deeds) new
held_so law deeds number stamp value weight bound old new before room given lands did =
    let flight = lands.flight in
    let fresh
    = law did.history did.put did.given number stamp value weight bound old new before room given did.run lands in
    record {
      history = happened.Ended flight ∷ did.history;
      put = did.put ++ set_of flight.id stamp value ∷ [];
      given = did.given ++ lands.holds.out;
      run = runs.Goes did.history (happened.Ended flight ∷ []) did.put (set_of flight.id stamp value ∷ []) did.given
          lands.holds.out old new did.run
          (runs.LandsIt number stamp value weight bound old new before room given lands);
      told = did.told;
      fresh = (
        (
          flight,
          ends_its_own number old.underway new.underway flight lands.ends,
          fresh_beside_held flight deeds
              (subst (IsFresh flight) did.told (told_fresh flight did.history fresh)),
        ),
        did.fresh,
      );
    }

pub lands_so : HoldsFresh ShowsValue → (deeds : List Deed) (number stamp value weight bound : ℕ) (old new : StoreSeen)
    (before room : GivenValue) (answer : Landed)
    → Lands ShowsValue number stamp value weight bound old before new room answer → Did deeds old
    → Did (with_landed number answer deeds) new
lands_so law deeds number stamp value weight bound old new before room (landed.Held given) lands did =
    held_so law deeds number stamp value weight bound old new before room given lands did
lands_so law deeds number stamp value weight bound old new before room landed.Own lands did =
    goes deeds (ended_by lands.found) [] [] old new did (runs.LandsNone number weight old new before room lands)
    (end_untold lands.found did.history)

pub fails_so : (deeds : List Deed) (number : ℕ) (old new : StoreSeen) (found : Option Flight)
    → Fails number old new found → Did deeds old → Did deeds new
fails_so deeds number old new found fails did =
    goes deeds (ended_by found) [] [] old new did (runs.FailsIt number old new found fails)
    (end_untold found did.history)

pub looks_so : (deeds : List Deed) (id : ℕ) (old new : StoreSeen) (found : Option FoundValue) → Looks id old new found
    → Did deeds old → Did deeds new
looks_so deeds id old new found looks did = goes deeds [] [] [] old new did (runs.LooksIt id old new found looks) refl

pub evicts_so : (deeds : List Deed) (id : ℕ) (old new : StoreSeen) (had : Bool) → Evicts id old new had
    → Did deeds old → Did deeds new
evicts_so deeds id old new had evicts did = goes deeds [] [] [] old new did (runs.EvictsIt id old new had evicts) refl

pub invalidates_so : (deeds : List Deed) (id : ℕ) (old new : StoreSeen) (had : Bool) → Invalidates id old new had
    → Did deeds old → Did (Invalidated id ∷ deeds) new
invalidates_so deeds id old new had invalidates did =
    record {
      history = happened.Invalidated id ∷ did.history;
      put = did.put ++ [];
      given = did.given ++ [];
      run = runs.Goes did.history (happened.Invalidated id ∷ []) did.put [] did.given [] old new did.run
          (runs.InvalidatesIt id old new had invalidates);
      told = ap (λ (more : List Deed). Invalidated id ∷ more) did.told;
      fresh = did.fresh;
    }

-- THE OPENING AND THE END
pub opens_so : (shape : StoreShape) (map : IdTable) (store : StoreSeen) (readers : List IdCaller)
    → OpensStore shape map store readers → Did [] store
opens_so shape map store readers opens =
    record {
      history = [];
      put = [];
      given = [];
      run = runs.Opens shape.flights shape.changes store opens.nothing (sets.Opens _ _ _ _ _ opens.opens.opened);
      told = refl;
      fresh = tt;
    }

pub ends_apart : StoresInOrder ShowsValue → (deeds : List Deed) (store : StoreSeen) → ∥ Did deeds store ∥₁
    → AllPairs Differ store.underway.flights
ends_apart law deeds store did i j d before within same =
    ∥∥₁_elim did (λ a b. absurd a)
    (λ (did : Did deeds store). (law did.history did.put did.given store did.run).one i j d before within same)
