-- The polls of one call are no more than the readers.
-- A reader that holds none of the slots that are still to be polled comes to hold none of them, since it comes to hold
-- a named slot, and no slot is retired during a sweep (held_swept). One that holds the slot that is polled holds no
-- other, so each poll that finds its slot held leaves one such reader more (sweep_more). Every event keeps this
-- (swept_event).
use Rattle.std.proofs.Common.{[], List, ap, arith, cond, drop, get_or, length, map, refl, set, subst, suc, take, zero}
use Rattle.std.proofs.Common.{ℕ, ◌%◌, ◌*◌, ◌++◌, ◌+◌, ◌-◌, ◌/◌, ◌<◌, ◌^◌, ◌∙◌, ◌∷◌, ◌≡◌, ◌≢◌, ◌≤◌, sym}
use Rattle.std.proofs.lemmas.Bool.{eqb-false, eqb-true}
use Rattle.std.proofs.lemmas.List.{drop_more, length-append, map-append, take_more}
use Rattle.std.specs.Prelude.{None, nat_le, nat_lt}
use Rattle.nr_model.specs.Histories.{Entry}
use Rattle.nr_model.specs.Maps.{state_of}
use Rattle.nr_words.specs.KeyWords.{is_filled, same_count, slot_of}
use Rattle.nr_core.proofs.Choices.{by_cases, on_test}
use Rattle.nr_core.proofs.KeyWords.{is_named, name_high}
use Rattle.nr_core.proofs.OnKey.{in_range}
use Rattle.nr_core.proofs.StateRoles.{IsCoreState, state_sums}
use Rattle.nr_core.proofs.Sums.{got_at, only-le, only-other, only-same, total-drop, total-set}
use Rattle.nr_core.specs.Accounts.{on}
use Rattle.nr_core.specs.Machine.{arrive_hold, found_by, moved, read_hold}
use Rattle.nr_core.specs.Operations.{going, target_of}
use Rattle.nr_core.specs.Refusals.{refusal}
use Rattle.nr_core.specs.Roles.{retirements}
use Rattle.nr_core.specs.Slots.{content, name_number}
use Rattle.nr_core.specs.States.{Arrive, Depart, Event, Go, Read, Start, State, hold_of, key_of, no_retired, slot_in}
use Rattle.nr_core.specs.Story.{Poll, holders_from, is_on, map_after, poll_at, polls_after, polls_at}
use Rattle.nr_core.specs.Sums.{only, total}
use Rattle.nr_core.specs.Writer.{polls_on, taking_retired, went}
use Rattle.nr_core.specs.declared.calls.Step.{Step}
use Rattle.nr_core.specs.declared.calls.Step.TheVariants.{Going}
use Rattle.nr_core.specs.declared.places.Hold.{Hold}
use Rattle.nr_core.specs.declared.places.Place.{Place}
use Rattle.nr_core.specs.declared.places.Place.TheVariants.{Idle, Putting, Reading, Searching}
use Rattle.nr_core.specs.declared.places.Retired.{Retired}
use Rattle.nr_core.specs.declared.roles.Desk.{Desk}
use Rattle.nr_core.specs.declared.roles.Role.TheVariants.{Writer}
use Rattle.nr_core.specs.declared.shape.Shape.{Shape}
use Rattle.nr_core.proofs.Frames.{stands_at}
use Rattle.nr_model.specs.declared.states.KeyState.{KeyState}
use Rattle.nr_core.proofs.Guards.{at_reader, at_reader_key}
use Rattle.nr_core.proofs.Without.{OfOutcomes, ShownBy, looked_has, read_has}
use Rattle.nr_core.specs.declared.places.Hold.TheVariants as hold

-- 1 where the hold is of none of the slots
abbrev clear_of : List Retired → Hold → ℕ
clear_of retired hold.Nothing = 1
clear_of retired (hold.On slot size) = 1 - retirements slot retired

-- A sweep that is about to poll the retired slot at `poll`: each slot before it was found held, and as many readers
-- hold none of the slots from there on.
pub record Sweep (retired : List Retired) (holds : List Hold) (polls : List Poll) (poll : ℕ) : Type 0 where
  pub many : length polls ≡ poll
  pub slots : map (λ (x : Poll). x.slot) polls ≡ map (λ (x : Retired). x.slot) (take poll retired)
  pub clear : poll ≤ total (clear_of (drop poll retired)) holds

abbrev pub AtSweep : List Retired → List Hold → List Poll → Place → Type 0
AtSweep retired holds polls (Reading call slot got) = polls ≡ []
AtSweep retired holds polls (Searching call rows poll) = Sweep retired holds polls poll
AtSweep retired holds polls other = Unit {0}

pub record SweptBy (readers : ℕ) (desk : Desk) (holds : List Hold) (polls : List Poll) : Type 0 where
  pub few : length polls ≤ readers
  pub sweep : AtSweep desk.retired holds polls desk.place
  pub held : (i : ℕ) → i < length polls → 0 < length (get_or polls i (record { slot = 0; holders = [] })).holders

abbrev pub Swept : State → List Poll → Type 0
Swept state polls = SweptBy state.shape.readers state.desk state.holds polls

clear-le : (retired : List Retired) (x : Hold) → clear_of retired x ≤ 1
clear-le retired hold.Nothing = omega arith
clear-le retired (hold.On slot size) = omega arith

all-clear : (retired : List Retired) (holds : List Hold) → total (clear_of retired) holds ≤ length holds
all-clear retired [] = omega arith
all-clear retired (x ∷ holds) = omega (arith, clear-le retired x, all-clear retired holds)

-- who holds a slot that is retired once holds none of the later ones
polled_clear : (entry : Retired) (later : List Retired) (holds : List Hold) → retirements entry.slot later ≡ 0
    → total (clear_of (entry ∷ later)) holds + total (on entry.slot) holds ≤ total (clear_of later) holds
polled_clear entry later [] once = omega arith
polled_clear entry later (hold.Nothing ∷ holds) once = omega (arith, polled_clear entry later holds once)
polled_clear entry later (hold.On slot size ∷ holds) once =
    search (arith, polled_clear entry later holds once, only-same, only-le, only-other)

-- a slot that a key names is not retired
named_not_retired : (state : State) (log : List Entry) → IsCoreState state log → (key slot : ℕ)
    → key < state.shape.keys → name_number (get_or state.words key 0) ≡ suc slot
    → retirements slot state.desk.retired ≡ 0
named_not_retired state log is_core key slot near names =
    let shape = state.shape in
    let inside
    = in_range shape state.words (get_or state.words key 0) (state_of (map_after shape log) key) slot
    (is_core.core.shows key near) names in
    omega (
      arith,
      is_core.core.places slot inside,
      (state_sums state is_core.roles is_core.fit slot).1,
      is_named shape state.words key slot near names,
    )

-- who arrives holds a named slot, or none
arrive_clear : (state : State) (log : List Entry) → IsCoreState state log → (key : ℕ) → key < state.shape.keys
    → (poll : ℕ) → clear_of (drop poll state.desk.retired) (arrive_hold (get_or state.words key 0)) ≡ 1
arrive_clear state log is_core key near poll =
    let word = get_or state.words key 0 in
    on_test (λ x. clear_of (drop poll state.desk.retired) x ≡ 1) (is_filled word)
    (λ filled.
    let names = name_high word (eqb-true (word / 2 % 2) 1 filled) in
    omega (
      arith,
      named_not_retired state log is_core key (slot_of word) near (omega arith),
      total-drop (λ (x : Retired). only (slot_of word) x.slot) state.desk.retired poll,
    ))
    (λ _. refl)

-- the slots that were polled are the first of the retired ones
pub polled_slots : (state : State) (polls : List Poll) (poll : ℕ) → poll < length state.desk.retired
    → map (λ (x : Poll). x.slot) polls ≡ map (λ (x : Retired). x.slot) (take poll state.desk.retired)
    → map (λ (x : Poll). x.slot) (polls ++ poll_at state poll ∷ [])
    ≡ map (λ (x : Retired). x.slot) (take (poll + 1) state.desk.retired)
polled_slots state polls poll within slots =
    let retired = state.desk.retired in
    let entry = get_or retired poll no_retired in
    map-append (λ (x : Poll). x.slot) polls (poll_at state poll ∷ [])
    ∙ ap (λ (l : List ℕ). l ++ entry.slot ∷ []) slots
    ∙ sym (ap (map (λ (x : Retired). x.slot)) (take_more retired poll no_retired within)
    ∙ map-append (λ (x : Retired). x.slot) (take poll retired) (entry ∷ []))

-- a sweep goes on by a slot that was found held
sweep_more : (state : State) (log : List Entry) (polls : List Poll) (poll : ℕ) → IsCoreState state log
    → poll < length state.desk.retired → Sweep state.desk.retired state.holds polls poll
    → 0 < total (on (get_or state.desk.retired poll no_retired).slot) state.holds
    → Sweep state.desk.retired state.holds (polls ++ poll_at state poll ∷ []) (poll + 1)
sweep_more state log polls poll is_core within t here =
    let retired = state.desk.retired in
    let entry = get_or retired poll no_retired in
    let slot = entry.slot in
    let later = drop (poll + 1) retired in
    let next = drop_more retired poll no_retired within in
    let known = is_core.core.knows 0 (Writer state.desk) is_core.fit.writer in
    let inside = (known.retired poll entry (got_at retired poll no_retired within)).0 in
    let once : retirements slot later ≡ 0
    = omega (
      arith,
      only-same slot,
      ap (retirements slot) next,
      total-drop (λ (x : Retired). only slot x.slot) retired poll,
      is_core.core.places slot inside,
      (state_sums state is_core.roles is_core.fit slot).1,
    ) in
    record {
      many = omega (arith, t.many, length-append polls (poll_at state poll ∷ []));
      slots = polled_slots state polls poll within t.slots;
      clear = omega (
        arith,
        t.clear,
        ap (λ (l : List Retired). total (clear_of l) state.holds) next,
        polled_clear entry later state.holds once,
      );
    }

-- EVERY EVENT KEEPS A SWEEP

held_swept : {readers : ℕ} {desk : Desk} {holds : List Hold} {polls : List Poll} (i : ℕ) (now : Hold)
    → i < length holds
    → ((poll : ℕ) → clear_of (drop poll desk.retired) (get_or holds i hold.Nothing)
    ≤ clear_of (drop poll desk.retired) now)
    → SweptBy readers desk holds polls → SweptBy readers desk (set holds i now) polls
held_swept {desk = desk} {holds = holds} {polls = polls} i now within more s =
    record { few = s.few; sweep = go desk.place s.sweep; held = s.held }
  where
    go : (place : Place) → AtSweep desk.retired holds polls place → AtSweep desk.retired (set holds i now) polls place
    go (Searching call rows poll) t = record {
      many = t.many;
      slots = t.slots;
      clear = omega (
        arith,
        t.clear,
        more poll,
        total-set (clear_of (drop poll desk.retired)) holds i (get_or holds i hold.Nothing) now
            (got_at holds i hold.Nothing within),
      );
    }
    go other t = t

read_clear : (retired : List Retired) (index found : ℕ) (x : Hold)
    → clear_of retired x ≤ clear_of retired (read_hold index found x)
read_clear retired index found hold.Nothing = omega arith
read_clear retired index found (hold.On slot size) = omega arith

module _ (holds : List Hold) (polls : List Poll) where
  abbrev Good : Desk × Step → Type 0
  Good outcome = AtSweep outcome.0.retired holds polls outcome.0.place

  good : (shape : Shape) (desk : Desk) → polls ≡ [] → (shown : KeyState → Type 0)
      → OfOutcomes shape desk shown (λ _. Good)
  good shape desk none shown = search (arith, none)

some_holder : (s : ℕ) (l : List Hold) (r : ℕ) → 0 < total (on s) l → 0 < length (holders_from r s l)
some_holder s [] r more = absurd (omega arith)
some_holder s (x ∷ l) r more =
    by_cases
    (λ v. (on s x ≡ cond v 1 0) → 0 < length (cond v (r ∷ holders_from (r + 1) s l) (holders_from (r + 1) s l)))
    (is_on s x) (λ _ _. omega arith) (λ _ none. some_holder s l (r + 1) (omega arith)) (counts_as x)
  where
    counts_as : (x : Hold) → on s x ≡ cond (is_on s x) 1 0
    counts_as hold.Nothing = refl
    counts_as (hold.On t n) = refl

all_more : {A : Type 0} (P : A → Type 0) (l : List A) (a desk : A) → ((i : ℕ) → i < length l → P (get_or l i desk))
    → P a → (i : ℕ) → i < length (l ++ a ∷ []) → P (get_or (l ++ a ∷ []) i desk)
all_more P [] a desk all one zero low = one
all_more P [] a desk all one (suc i) low = absurd (omega arith)
all_more P (x ∷ l) a desk all one zero low = all 0 (omega arith)
all_more P (x ∷ l) a desk all one (suc i) low =
    all_more P l a desk (λ j lj. all (suc j) (omega arith)) one i (omega arith)

abbrev has_holder : Poll → Type 0
has_holder x = 0 < length x.holders

-- the writer's step after its look
go_swept : (state : State) (log : List Entry) (polls : List Poll) → IsCoreState state log → Swept state polls
    → (place : Place) → state.desk.place ≡ place
    → SweptBy state.shape.readers (went state.shape state.desk place (found_by state Go)).0 state.holds
    (polls_at state polls place)
go_swept state log polls is_core s Idle is = s
go_swept state log polls is_core s (Reading call slot got) is = record {
  few = s.few;
  sweep = read_has state.shape state.desk (λ _. Good state.holds polls)
      (good state.holds polls state.shape state.desk (subst (AtSweep state.desk.retired state.holds polls) is s.sweep))
      call slot (got ++ found_by state Go ∷ []);
  held = s.held;
}
go_swept state log polls is_core s (Putting call rows slot departed index) is = record {
  few = s.few;
  sweep = on_test (Good state.holds polls) (nat_le index (2 * length rows)) (λ _. tt) (λ _. tt);
  held = s.held;
}
go_swept state log polls is_core s (Searching call rows poll) is =
    let shape = state.shape in
    let desk = state.desk in
    let found = found_by state Go in
    let found_is = ap (λ (place : Place). get_or state.words (target_of (going shape desk place)) 0) is in
    let entry = get_or desk.retired poll no_retired in
    let known = is_core.core.knows 0 (Writer desk) is_core.fit.writer in
    let within = (stands_at is_core.core 0 is_core.fit.writer is).1 in
    let count = (known.retired poll entry (got_at desk.retired poll no_retired within)).1 in
    let polls' : List Poll = polls ++ poll_at state poll ∷ [] in
    by_cases
    (λ v. SweptBy shape.readers
    (cond {A = Desk × Step} v (taking_retired desk call rows poll found, Going) (polls_on shape desk call rows poll)).0
    state.holds (cond v polls polls'))
    (same_count found entry.arrivals)
    (λ _. record { few = s.few; sweep = tt; held = s.held })
    (λ no.
    let miss : found % 2 ^ 40 ≢ entry.arrivals % 2 ^ 40 = eqb-false (found % 2 ^ 40) (entry.arrivals % 2 ^ 40) no in
    let here : 0 < total (on entry.slot) state.holds
    = omega (arith, (state_sums state is_core.roles is_core.fit entry.slot).0) in
    let more
    = sweep_more state log polls poll is_core within (subst (AtSweep desk.retired state.holds polls) is s.sweep) here in
    record {
      few = omega (arith, more, all-clear (drop (poll + 1) desk.retired) state.holds, is_core.fit.size);
      sweep = on_test (Good state.holds polls') (nat_lt (poll + 1) (length desk.retired)) (λ _. more) (λ _. tt);
      held = all_more has_holder polls (poll_at state poll) (record { slot = 0; holders = [] }) s.held
          (some_holder entry.slot state.holds 1 here);
    })
go_swept state log polls is_core s other is = record { few = s.few; sweep = tt; held = s.held }

pub swept_event : (state : State) (log : List Entry) (polls : List Poll) (event : Event) → IsCoreState state log
    → Swept state polls → refusal state event ≡ None → Swept (moved state event) (polls_after state polls event)
swept_event state log polls (Arrive reader key) is_core s ok =
    let at = at_reader_key state.shape reader key _ ok in
    held_swept (reader - 1) (arrive_hold (get_or state.words key 0)) (omega (arith, at.0, at.1, is_core.fit.size))
    (λ poll. omega (
      arith,
      clear-le (drop poll state.desk.retired) (get_or state.holds (reader - 1) hold.Nothing),
      arrive_clear state log is_core key at.2 poll,
    ))
    s
swept_event state log polls (Read reader index) is_core s ok =
    let at = at_reader state.shape reader _ ok in
    let found = get_or state.words (content state.shape (slot_in (hold_of state reader)) index) 0 in
    held_swept (reader - 1) (read_hold index found (hold_of state reader)) (omega (arith, at.0, at.1, is_core.fit.size))
    (λ poll. read_clear (drop poll state.desk.retired) index found (hold_of state reader)) s
swept_event state log polls (Depart reader) is_core s ok =
    let at = at_reader state.shape reader _ ok in
    held_swept (reader - 1) hold.Nothing (omega (arith, at.0, at.1, is_core.fit.size))
    (λ poll. clear-le (drop poll state.desk.retired) (get_or state.holds (reader - 1) hold.Nothing)) s
swept_event state log polls (Start call) is_core s ok = record {
  few = omega arith;
  sweep =
      let word = get_or state.words (key_of call) 0 in
      looked_has state.shape state.desk (λ _. Good state.holds []) word
      (good state.holds [] state.shape state.desk refl (ShownBy state.shape word)) call;
  held = λ i low. absurd (omega arith);
}
swept_event state log polls Go is_core s ok = go_swept state log polls is_core s state.desk.place refl
swept_event state log polls other is_core s ok = s
