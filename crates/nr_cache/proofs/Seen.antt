-- What a store's call says, from what it did to the store's parts.
use Rattle.std.proofs.Common.{◌≡◌, ◌<◌, ◌≤◌, ◌⊎◌, ◌↔◌, ℕ, List, Option, None, Some, Bool, true, false, inl, inr}
use Rattle.std.proofs.Common.{refl, ap, IsTrue}
use Rattle.nr_model.specs.declared.rows.Row.{Row}
use Rattle.nr_cache.specs.declared.flights.Flight.{Flight}
use Rattle.nr_cache.specs.declared.flights.Fate.TheVariants as fate
use Rattle.nr_cache.specs.declared.store.Landed.{Landed}
use Rattle.nr_cache.specs.declared.store.Landed.TheVariants as landed
use Rattle.nr_cache.specs.Flights.{Ends, Outdates, Underway, is_changing}
use Rattle.nr_cache.specs.StoreSeen.{StoreSeen, stock_in}
use Rattle.nr_cache.specs.Stores.{HoldsOrNot, Lands, Puts}
use Rattle.nr_cache.specs.Values.{row_of}
use Rattle.nr_cache.proofs.Ways.{below_or_past}

-- a value that may be held by its weight
pub not_heavy : {is : Bool} {most weight : ℕ} → (IsTrue is ↔ most < weight) → is ≡ false → weight ≤ most
not_heavy {is} {most} {weight} tells isnt = elim (below_or_past most weight) [
  | inl heavy ↦ let yes = tells.1 heavy in absurd (cc (yes, isnt))
  | inr light ↦ light
]

-- nor is it its caller's own for another reason
pub not_own : {changing is : Bool} {most weight : ℕ} → (IsTrue is ↔ (changing ≡ true) ⊎ (most < weight)) → is ≡ false
    → (changing ≡ false) × (weight ≤ most)
not_own {changing = true} tells isnt = let yes = tells.1 (inl refl) in absurd (cc (yes, isnt))
not_own {changing = false} {most = most} {weight = weight} tells isnt =
    (refl, not_heavy ((λ yes. heavy (tells.0 yes)), (λ more. tells.1 (inr more))) isnt)
  where
    heavy : (false ≡ true) ⊎ (most < weight) → most < weight
    heavy (inl never) = absurd (cc (never))
    heavy (inr more) = more

-- an outdated flight leaves the changes as they are
pub same_changing : (id : ℕ) (old new : Underway) (found : Option Flight) → Outdates id old new found
    → is_changing id new ≡ is_changing id old
same_changing id old new None outdates = ap (is_changing id) outdates.1
same_changing id old new (Some flight) outdates = ap (is_changing id) outdates.2

module _ {Room : Type 0} (shows : Room → List Row → Type 0) where
  pub lands_by : (number stamp value weight bound : ℕ) (old : StoreSeen) (before : Room) (new : StoreSeen)
      (after : Room) (flight : Flight) (answer : Landed) → Ends number old.underway new.underway (Some flight)
      → flight.fate ≡ fate.Hold → weight ≤ old.load.most → new.capacity ≡ old.capacity
      → HoldsOrNot shows old.capacity bound weight flight.id (row_of stamp value) (stock_in old) old.asker before
      (stock_in new) new.asker after answer
      → Lands shows number stamp value weight bound old before new after answer
  lands_by number stamp value weight bound old before new after flight (landed.Held given) ends fated light same holds =
      record { flight = flight; ends = ends; fated = fated; holds = holds; same = same }
  lands_by number stamp value weight bound old before new after flight landed.Own ends fated light same holds = record {
    found = Some flight;
    ends = ends;
    why = inr (flight, refl, fated, light, holds.0);
    stays = holds.1;
    same = same;
  }

  pub puts_by : (id stamp value weight bound : ℕ) (old : StoreSeen) (before : Room) (new : StoreSeen) (after : Room)
      (found : Option Flight) (answer : Landed) → Outdates id old.underway new.underway found
      → (is_changing id old.underway ≡ false) × (weight ≤ old.load.most) → new.capacity ≡ old.capacity
      → HoldsOrNot shows old.capacity bound weight id (row_of stamp value) (stock_in old) old.asker before
      (stock_in new) new.asker after answer
      → Puts shows id stamp value weight bound old before new after answer
  puts_by id stamp value weight bound old before new after found (landed.Held given) outdates quiet same holds =
      record { found = found; outdates = outdates; quiet = quiet.0; holds = holds; same = same }
  puts_by id stamp value weight bound old before new after found landed.Own outdates quiet same holds = record {
    found = found;
    outdates = outdates;
    why = inr (quiet.0, quiet.1, holds.0);
    gone = holds.0.lacks.gone;
    stays = holds.1;
    same = same;
  }
