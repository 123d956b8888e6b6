-- One event after another: of each id one flight at most is under way, each began once, and those whose values are to
-- be held are fresh.
use Rattle.std.proofs.Common.{◌≡◌, ◌≢◌, ◌<◌, ◌≤◌, ◌+◌, ℕ, inl, inr, Bool, true, cond, List, [], ◌∷◌, ◌++◌, Option}
use Rattle.std.proofs.Common.{Some, None}
use Rattle.std.proofs.Common.{arith, length, get_or, map, set, refl, sym, ap, ◌∙◌, subst}
use Rattle.std.specs.Option.{is_some}
use Rattle.std.specs.List.{AllPairs, Contains, count_by, position}
use Rattle.std.proofs.lemmas.Bool.{cases_eq, cases_order, eqb-false, eqb-true, eq-eqb, ne_eqb}
use Rattle.std.proofs.lemmas.List.{get_or-map, get_or_default, length-map}
use Rattle.std.proofs.lemmas.List.Elements.{Contains-push_cases}
use Rattle.std.proofs.lemmas.List.Quantifiers.{all_pairs_push, all_pairs_remove, position-Some}
use Rattle.std.proofs.lemmas.List.Sums.{sum_by-cons, sum_by-le, sum_by-remove, sum_by_push}
use Rattle.std.proofs.lemmas.Simd.{map-map}
use Rattle.std.proofs.Math.Seq.{map-set_same}
use Rattle.nr_cache.specs.declared.flights.Flight.{Flight}
use Rattle.nr_cache.specs.declared.flights.Fate.TheVariants.{Hold, Outdated}
use Rattle.nr_cache.specs.Flights.{Underway}
use Rattle.nr_cache.specs.Flights.{Begins, BeginsChange, Ends, EndsChange, IsFree, Outdates, OutdatesAll, fate_of}
use Rattle.nr_cache.specs.Flights.{has_number, is_changing, is_id, is_of, outdated}
use Rattle.nr_cache.specs.Histories.{Differ, Does, EachFlightEndsOnce, Event, HeldIsFresh, IsFresh, Run, changes_of}
use Rattle.nr_cache.specs.Histories.{times_begun, times_ended}
use Rattle.nr_cache.specs.Histories.Event.{AllInvalidated, Began, Ended, Invalidated, ChangeBegan, ChangeEnded}
use Rattle.nr_cache.specs.Histories.Run.{Opens, Goes}
use Rattle.nr_cache.proofs.Lists.{contains_removed, contains_written, none_passes}

-- what holds after any calls
record Stays (history : List Event) (now : Underway) : Type 0 where
  pub one : AllPairs Differ now.flights
  pub once : (number : ℕ) → (times_begun number history ≤ 1) × (now.begun < number → times_begun number history ≡ 0)
  pub each : (number : ℕ) → times_begun number history
      ≡ times_ended number history + count_by (has_number number) now.flights
  pub changes : (id : ℕ) → count_by (is_id id) now.changing ≡ changes_of id history
  pub fresh : (flight : Flight) → Contains now.flights flight → flight.fate ≡ Hold → IsFresh flight history

hold≢outdated : Hold ≡ Outdated → ⊥
hold≢outdated e = cc (e)

-- A FLIGHT BEGINS
held_means_none : {X : Type 0} → (o : Option X) → fate_of (is_some o) ≡ Hold → o ≡ None
held_means_none None e = refl
held_means_none (Some x) e = absurd (cc (e))

-- an id that isn't among them is counted never
count_none : (id : ℕ) (ids : List ℕ) → position (is_id id) ids ≡ None → count_by (is_id id) ids ≡ 0
count_none id ids none =
    let most = sum_by-le (λ (i : ℕ). cond (is_id id i) 1 0) 0 ids (λ k d within.
    let fails = ap {B = ℕ} (λ (b : Bool). cond b 1 0) (none_passes (is_id id) ids k d none within) in
    omega (arith, fails)) in
    omega (arith, most)

-- a flight whose value is to be held began while its id wasn't being changed
begins_quiet : (history : List Event) (old : Underway) (flight : Flight) (id mark : ℕ) → Stays history old
    → flight ≡ record { id = id; number = old.begun + 1; mark = mark; fate = fate_of (is_changing id old) }
    → flight.fate ≡ Hold → changes_of flight.id history ≡ 0
begins_quiet history old flight id mark stays is held =
    let none =
    held_means_none (position (is_id id) old.changing) (sym (ap (λ (f : Flight). f.fate) is) ∙ held) in
    ap (λ (f : Flight). changes_of f.id history) is ∙ sym (stays.changes id) ∙ count_none id old.changing none

begin : (history : List Event) (old new : Underway) (flight : Flight) (id mark : ℕ) → Stays history old
    → IsFree id old → Begins id mark old new (Some flight) → Stays (Began flight ∷ history) new
begin history old new flight id mark stays free does =
    let its = ap (λ (f : Flight). f.number) does.0 in
    subst (λ (b : Underway). Stays (Began flight ∷ history) b) (sym does.2) record {
      one = all_pairs_push Differ old.flights flight stays.one (λ k d within e.
          eqb-false (get_or old.flights k d).id id (none_passes (is_of id) old.flights k d free within)
          (e ∙ ap (λ (f : Flight). f.id) does.0));
      once = λ number.
          let had = stays.once number in
          elim (cases_eq flight.number number) [
            | inl same ↦
                let none = had.1 (omega (arith, its, same)) in
                rw (eq-eqb flight.number number same)
                (omega (arith, none), λ above. absurd (omega (arith, its, same, above)))
            | inr other ↦
                rw (ne_eqb flight.number number other)
                (omega (arith, had.0), λ above. omega (arith, had.1 (omega (arith, above))))
          ];
      each = λ number.
          let more = sum_by_push (λ (f : Flight). cond (has_number number f) 1 0) old.flights flight in
          omega (arith, stays.each number, more);
      changes = stays.changes;
      fresh = λ f there held. elim (Contains-push_cases old.flights flight f there) [
        | inl before ↦ inr (stays.fresh f before held)
        | inr same ↦
            inl (
              same,
              subst (λ (f : Flight). f.fate ≡ Hold → changes_of f.id history ≡ 0) same
                  (begins_quiet history old flight id mark stays does.0) held,
            )
      ];
    }

-- A FLIGHT ENDS
end : (history : List Event) (old new : Underway) (flight : Flight) (number : ℕ) → Stays history old
    → Ends number old new (Some flight) → Stays (Ended flight ∷ history) new
end history old new flight number stays does =
    let place = does.0 in
    let low : place < length old.flights = does.1.1 in
    subst (λ (b : Underway). Stays (Ended flight ∷ history) b) (sym does.2) record {
      one = all_pairs_remove Differ old.flights place low stays.one;
      once = stays.once;
      each = λ n.
          let less = sum_by-remove (λ (f : Flight). cond (has_number n f) 1 0) old.flights place flight low in
          let its = ap {B = ℕ} (λ (f : Flight). cond (has_number n f) 1 0) does.1.2 in
          omega (arith, stays.each n, less, its);
      changes = stays.changes;
      fresh = λ f there held. stays.fresh f (contains_removed old.flights place f there) held;
    }

-- FLIGHTS ARE OUTDATED
-- where the ids are the same two differ still
pairs_same : (old new : List Flight) → map (λ (f : Flight). f.id) new ≡ map (λ (f : Flight). f.id) old
    → AllPairs Differ old → AllPairs Differ new
pairs_same old new same pairs i j d before within e =
    let here : j < length old =
    omega (
      arith,
      ap length same,
      length-map old (λ (f : Flight). f.id),
      length-map new (λ (f : Flight). f.id),
      within,
    ) in
    pairs i j d before here
    (sym (at i (omega (arith, before, here)) (omega (arith, before, within))) ∙ e ∙ at j here within)
  where
    at : (k : ℕ) → k < length old → k < length new → (get_or new k d).id ≡ (get_or old k d).id
    at k low high =
        sym (get_or-map (λ (f : Flight). f.id) new k d d.id high) ∙ ap (λ (ids : List ℕ). get_or ids k d.id) same
        ∙ get_or-map (λ (f : Flight). f.id) old k d d.id low

-- where the numbers are, as many have each
counts_by : (number : ℕ) (flights : List Flight)
    → count_by (has_number number) flights ≡ count_by (is_id number) (map (λ (f : Flight). f.number) flights)
counts_by number [] = refl
counts_by number (flight ∷ flights) =
    omega (
      arith,
      sum_by-cons (λ (f : Flight). cond (has_number number f) 1 0) flight flights,
      sum_by-cons (λ (n : ℕ). cond (is_id number n) 1 0) flight.number (map (λ (f : Flight). f.number) flights),
      counts_by number flights,
    )

counts_same : (old new : List Flight) → map (λ (f : Flight). f.number) new ≡ map (λ (f : Flight). f.number) old
    → (number : ℕ) → count_by (has_number number) new ≡ count_by (has_number number) old
counts_same old new same number =
    counts_by number new ∙ ap (count_by (is_id number)) same ∙ sym (counts_by number old)

-- two places of which the ids differ
apart : (flights : List Flight) → AllPairs Differ flights → (i j : ℕ) (d : Flight) → i < length flights
    → j < length flights → i ≢ j → (get_or flights i d).id ≢ (get_or flights j d).id
apart flights pairs i j d low high ne e = elim (cases_order i j) [
  | inl same ↦ ne same
  | inr (inl before) ↦ pairs i j d before high e
  | inr (inr after) ↦ pairs j i d after low (sym e)
]

-- those of another id stay fresh, and that of the id isn't held any more
record Lets (history : List Event) (id : ℕ) (old new : Underway) : Type 0 where
  pub flights : List Flight
  pub is : new ≡ record old { flights = flights }
  pub one : AllPairs Differ flights
  pub same : (number : ℕ) → count_by (has_number number) flights ≡ count_by (has_number number) old.flights
  pub fresh : (flight : Flight) → Contains flights flight → flight.fate ≡ Hold
      → (id ≢ flight.id) × IsFresh flight history

outdate : (history : List Event) (old mid : Underway) (found : Option Flight) (id : ℕ) → Stays history old
    → Outdates id old mid found → Lets history id old mid
outdate history old mid None id stays does = record {
  flights = old.flights;
  is = does.1;
  one = stays.one;
  same = λ number. refl;
  fresh = λ f there held. (
    (λ e. eqb-false (get_or old.flights there.0 f).id id
        (none_passes (is_of id) old.flights there.0 f does.0 there.1) (ap (λ (f : Flight). f.id) there.2 ∙ sym e)),
    stays.fresh f there held,
  );
}
outdate history old mid (Some flight) id stays does =
    let place = does.0 in
    let low : place < length old.flights = does.1.1 in
    let at : get_or old.flights place flight ≡ flight = does.1.2 in
    let first = position-Some (is_of id) old.flights place flight does.1.0 in
    let its : flight.id ≡ id = sym (ap (λ (f : Flight). f.id) at) ∙ eqb-true (get_or old.flights place flight).id id
    first.1 in
    let written = set old.flights place (outdated flight) in
    record {
      flights = written;
      is = does.2;
      one = pairs_same old.flights written
          (map-set_same (λ (f : Flight). f.id) old.flights place (outdated flight) flight
          (ap (λ (f : Flight). f.id) (sym at))) stays.one;
      same = counts_same old.flights written
          (map-set_same (λ (f : Flight). f.number) old.flights place (outdated flight) flight
          (ap (λ (f : Flight). f.number) (sym at)));
      fresh = λ f there held. elim (contains_written old.flights place (outdated flight) f low there) [
        | inl written ↦ absurd (hold≢outdated (sym held ∙ ap (λ (f : Flight). f.fate) written))
        | inr (k, other, within, is) ↦ (
          (λ e. apart old.flights stays.one k place f within low other
              (ap (λ (f : Flight). f.id) is ∙ sym e ∙ sym its
              ∙ ap (λ (f : Flight). f.id) (sym at ∙ get_or_default old.flights place flight f low))),
          stays.fresh f (k, within, is) held,
        )
      ];
    }

invalidate : (history : List Event) (old new : Underway) (found : Option Flight) (id : ℕ) → Stays history old
    → Outdates id old new found → Stays (Invalidated id ∷ history) new
invalidate history old new found id stays does =
    let lets = outdate history old new found id stays does in
    subst (λ (b : Underway). Stays (Invalidated id ∷ history) b) (sym lets.is) record {
      one = lets.one;
      once = stays.once;
      each = λ number. omega (arith, stays.each number, lets.same number);
      changes = stays.changes;
      fresh = lets.fresh;
    }

invalidate_all : (history : List Event) (old new : Underway) → Stays history old → OutdatesAll old new
    → Stays (AllInvalidated ∷ history) new
invalidate_all history old new stays does =
    let same = counts_same old.flights (map outdated old.flights)
    (map-map (λ (f : Flight). f.number) outdated old.flights) in
    subst (λ (b : Underway). Stays (AllInvalidated ∷ history) b) (sym does) record {
      one = pairs_same old.flights (map outdated old.flights) (map-map (λ (f : Flight). f.id) outdated old.flights)
          stays.one;
      once = stays.once;
      each = λ number. omega (arith, stays.each number, same number);
      changes = stays.changes;
      fresh = λ flight there held.
          let low : there.0 < length old.flights = omega (arith, length-map old.flights outdated, there.1) in
          let is = get_or-map outdated old.flights there.0 flight flight low in
          absurd (hold≢outdated (sym held ∙ ap (λ (f : Flight). f.fate) (sym there.2 ∙ is)));
    }

-- A CHANGE BEGINS AND ENDS
change : (history : List Event) (old mid new : Underway) (found : Option Flight) (id : ℕ) → Stays history old
    → Outdates id old mid found → BeginsChange id mid new true → Stays (ChangeBegan id ∷ history) new
change history old mid new found id stays does begins =
    let lets = outdate history old mid found id stays does in
    let is = begins.1 ∙ ap (λ (u : Underway). record u { changing = u.changing ++ id ∷ [] }) lets.is in
    subst (λ (b : Underway). Stays (ChangeBegan id ∷ history) b) (sym is) record {
      one = lets.one;
      once = stays.once;
      each = λ number. omega (arith, stays.each number, lets.same number);
      changes = λ other.
          let more = sum_by_push (λ (i : ℕ). cond (is_id other i) 1 0) old.changing id in
          omega (arith, more, stays.changes other);
      fresh = lets.fresh;
    }

unchange : (history : List Event) (old new : Underway) (id : ℕ) → Stays history old → EndsChange id old new true
    → Stays (ChangeEnded id ∷ history) new
unchange history old new id stays does =
    let first = position-Some (is_id id) old.changing does.0 id does.1 in
    subst (λ (b : Underway). Stays (ChangeEnded id ∷ history) b) (sym does.2) record {
      one = stays.one;
      once = stays.once;
      each = stays.each;
      changes = λ other.
          let less = sum_by-remove (λ (i : ℕ). cond (is_id other i) 1 0) old.changing does.0 id first.0 in
          let its = eqb-true (get_or old.changing does.0 id) id first.1 in
          let at = ap {B = ℕ} (λ (i : ℕ). cond (is_id other i) 1 0) its in
          omega (arith, less, at, stays.changes other);
      fresh = stays.fresh;
    }

-- ANY EVENTS
stays_in : {history : List Event} {now : Underway} → Run history now → Stays history now
stays_in (Opens room changes) = record {
  one = λ i j d before within. absurd (omega (arith, within));
  once = λ number. (omega arith, λ above. refl);
  each = λ number. refl;
  changes = λ id. refl;
  fresh = λ flight there held. absurd (let w = there.1 in omega (arith, w));
}
stays_in (Goes history event old new run does) = event_stays history event old new (stays_in run) does
  where
    event_stays : (history : List Event) (event : Event) (old new : Underway) → Stays history old → Does event old new
        → Stays (event ∷ history) new
    event_stays history (Began flight) old new stays does =
        begin history old new flight does.0 does.1 stays does.2 does.3
    event_stays history (Ended flight) old new stays does = end history old new flight does.0 stays does.1
    event_stays history (Invalidated id) old new stays does = invalidate history old new does.0 id stays does.1
    event_stays history AllInvalidated old new stays does = invalidate_all history old new stays does
    event_stays history (ChangeBegan id) old new stays does =
        change history old does.1 new does.0 id stays does.2 does.3
    event_stays history (ChangeEnded id) old new stays does = unchange history old new id stays does

pub each_flight_ends_once_lem : EachFlightEndsOnce
each_flight_ends_once_lem history now run =
    let stays = stays_in run in
    record { one = stays.one; once = λ number. (stays.once number).0; each = stays.each; fresh = stays.fresh }

pub held_is_fresh_lem : HeldIsFresh
held_is_fresh_lem history old new flight run does held =
    (stays_in run).fresh flight (does.1.0, does.1.1.1, does.1.1.2) held
