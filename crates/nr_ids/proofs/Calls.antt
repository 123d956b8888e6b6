-- Calls of a few steps: what each step gains adds up, and where a scan finds no name the id had no way at some moment.
use Rattle.std.proofs.Common.{◌≡◌, ◌≢◌, ℕ, zero, suc, ◌+◌, ◌-◌, ◌*◌, ◌/◌, ◌%◌, ◌<◌, ◌≤◌, ◌⊎◌, ⊎_elim, inl, inr, List}
use Rattle.std.proofs.Common.{[], ◌∷◌, ◌++◌, refl, sym, ap, ◌∙◌, subst, arith, append_assoc, length-append, Bool, true}
use Rattle.std.proofs.Common.{false}
use mathlib.Core.Logic.{dite}
use native.Mathlib.Decide.{dec_le, ℕ_discrete}
use Rattle.std.proofs.lemmas.Bool.Decides.{nat_tests}
use Rattle.nr_ids.specs.declared.plan.Plan.{Plan}
use Rattle.nr_ids.specs.Groups.{IsWayOf, group_of, group_of_way, places, second_of, way_at, way_in}
use Rattle.nr_ids.specs.Events.{Event, looked, own, looks, name_of, turn_of, mark_bit, May, IsLegal, IsAbsent, IsOpen}
use Rattle.nr_ids.specs.Events.{IsClosed}
use Rattle.nr_ids.specs.Looking.{WasAbsent, LackedName, PassedByClerk, group_for, way_for}
use Rattle.nr_ids.specs.Answers.{WasOpen}
use Rattle.nr_ids.specs.Marks.{ChoosesWay, LoadsMarks, TakesMark, TurnsMarks}
use Rattle.nr_ids.specs.Tokens.{Opened, Token, Grows, Newest, Within}
use Rattle.nr_ids.proofs.Logs.{ClearsNothing, exact_names, looks_names, named_inside, own_append, quiet_turn, was_odd}

pub grows_none : (old : Token) → IsLegal old.directory.plan old.seen → Grows [] old old
grows_none old legal =
    record {
      directory = refl;
      number = refl;
      made = refl;
      rest = [];
      seen = refl;
      acts_are = refl;
      newest = refl;
      legal = legal;
      steps = omega arith;
    }

newest_on : (first last old mid new : List Event) → Newest first old mid → Newest last mid new
    → Newest (last ++ first) old new
newest_on first last old mid new a b = grind arith

pub grows_on : (old mid new : Token) (first last : List Event) → Grows first old mid → Grows last mid new
    → Grows (last ++ first) old new
grows_on old mid new first last a b = record {
  directory = b.directory ∙ a.directory;
  number = b.number ∙ a.number;
  made = b.made ∙ a.made;
  rest = b.rest ++ a.rest;
  seen = rw (b.seen, a.seen, append_assoc);
  acts_are = rw (own_append, a.acts_are, ← a.number, b.acts_are);
  newest = newest_on first last old.seen mid.seen new.seen a.newest b.newest;
  legal = subst (λ (d : Opened). IsLegal d.plan new.seen) a.directory b.legal;
  steps = omega (arith, a.steps, b.steps, length-append last first);
}

-- the second call's steps are counted as the first one's caller's
pub grows_next : (last : ℕ → List Event) (old mid new : Token) (first : List Event) → Grows first old mid
    → Grows (last mid.number) mid new → Grows (last old.number ++ first) old new
grows_next last old mid new first a b = subst (λ (by : ℕ). Grows (last by ++ first) old new) a.number
    (grows_on old mid new first (last mid.number) a b)

-- what holds below a number and at it holds below the next
pub up_to : (P : ℕ → Type 0) (count : ℕ) → ((at : ℕ) → at < count → P at) → P count → (at : ℕ) → at < suc count → P at
up_to P count below here at near = dite (ℕ_discrete at count)
    (λ (e : at ≡ count). subst P (sym e) here)
    (λ ne. below at (omega (arith, near, ne)))

ends_none : (a b : List Event) → a ++ b ≡ [] → (a ≡ []) × (b ≡ [])
ends_none [] b e = (refl, e)
ends_none (x ∷ a) b e = absurd (cc (e))

-- a moment after a step of the call's
pub within_between : {old mid new : Token} {act : Event} {acts moment : List Event} (since later : List Event)
    → Grows (act ∷ acts) old mid → moment ≡ since ++ mid.seen → new.seen ≡ later ++ moment → Within old new moment
within_between {old = old} {act = act} {acts = acts} since later grows from until = record {
  since = since ++ grows.rest;
  from = rw (from, grows.seen, append_assoc);
  begun = λ none. absurd (cc (
    grows.acts_are,
    (ends_none (own old.number since) (own old.number grows.rest) (rw own_append at none)).1,
  ));
  later = later;
  until = until;
}

-- where a turn that was even has changed, a claim was open within the call
pub was_open : (id : ℕ) (old mid new : Token) (rest : List Event) → Grows (looks 1 old.number) old mid
    → new.seen ≡ rest ++ mid.seen → IsClosed old.directory.plan mid.seen (group_for old id)
    → turn_of old.directory.plan new.seen (group_for old id) ≢ turn_of old.directory.plan mid.seen (group_for old id)
    → WasOpen id old new
was_open id old mid new rest grows is closed changed =
    let odd
    = was_odd old.directory.plan rest mid.seen (group_for old id) closed
    (λ same. changed (ap (λ (l : List Event). turn_of old.directory.plan l (group_for old id)) is ∙ same)) in
    record {
      moment = odd.0;
      within = within_between odd.2 odd.1 grows odd.4 (is ∙ odd.3);
      is_open = odd.5;
    }

module _ (plan : Plan) (id : ℕ) (real : 0 < id) where
  -- the first way of those that has the name, or none has it
  search_ways : (log : List Event) (count : ℕ)
      → ((i : ℕ) × (i < count) × (name_of log (way_at plan id i) ≡ id))
      ⊎ ((i : ℕ) → i < count → name_of log (way_at plan id i) ≢ id)
  search_ways log zero = inr (λ i below. absurd (omega arith))
  search_ways log (suc count) = ⊎_elim
      (λ (t : (i : ℕ) × (i < count) × (name_of log (way_at plan id i) ≡ id)). inl (t.0, omega (arith, t.1), t.2))
      (λ (t : (i : ℕ) → i < count → name_of log (way_at plan id i) ≢ id). dite
      (ℕ_discrete (name_of log (way_at plan id count)) id) (λ e. inl (count, omega arith, e))
      (λ ne. inr (up_to (λ i. name_of log (way_at plan id i) ≢ id) count t ne)))
      (search_ways log count)

  pub none_has : (log : List Event) → IsLegal plan log → ((i : ℕ) → i < places → name_of log (way_at plan id i) ≢ id)
      → IsAbsent log id
  none_has log legal none way has = grind (arith, named_inside plan log way id legal real has)

  absent_before : (event : Event) (log : List Event) (way : ℕ) → May plan log event → name_of log way ≢ id
      → name_of (event ∷ log) way ≡ id → IsAbsent log id
  absent_before event log way may other has = grind (arith, nat_tests)

  -- where a way that hadn't the name got it, there was a moment at which no way had it
  named_since : (rest log : List Event) (way : ℕ) → IsLegal plan (rest ++ log) → name_of log way ≢ id
      → name_of (rest ++ log) way ≡ id
      → (moment : List Event) × (later : List Event) × (since : List Event) × (rest ++ log ≡ later ++ moment)
      × (moment ≡ since ++ log) × IsAbsent moment id
  named_since [] log way legal other has = absurd (other has)
  named_since (event ∷ rest) log way legal other has = dite (ℕ_discrete (name_of (rest ++ log) way) id)
      (λ (e : name_of (rest ++ log) way ≡ id).
      let t = named_since rest log way legal.1 other e in
      (t.0, event ∷ t.1, t.2, ap (λ (l : List Event). event ∷ l) t.3, t.4, t.5))
      (λ ne. (
        rest ++ log,
        event ∷ [],
        rest,
        refl,
        refl,
        absent_before event (rest ++ log) way legal.0 ne has,
      ))

-- a moment of a call's later steps is one of the call
pub within_since : {old mid new : Token} {acts moment : List Event} → Grows acts old mid → Within mid new moment
    → Within old new moment
within_since {old = old} {mid = mid} grows within = record {
  since = within.since ++ grows.rest;
  from = rw (within.from, grows.seen, append_assoc);
  begun = λ none. within.begun (rw grows.number (ends_none _ _ (rw own_append at none)).0);
  later = within.later;
  until = within.until;
}

-- where each of an id's ways hadn't its name, there was a moment at which the id had none
pub absent_within : (id : ℕ) → 0 < id → (old new : Token) → IsLegal old.directory.plan new.seen
    → Within old new new.seen
    → ((place : ℕ) → place < places → LackedName (way_for old id place) id old new) → WasAbsent id old new
absent_within id real old new legal last lacked = let plan = old.directory.plan in ⊎_elim
    (λ (t : (i : ℕ) × (i < places) × (name_of new.seen (way_at plan id i) ≡ id)).
    let way : ℕ = way_at plan id t.0 in
    let lack = lacked t.0 t.1 in
    let within = lack.within in
    let gap
    = named_since plan id real within.later lack.moment way (subst (IsLegal plan) within.until legal) lack.other
    (ap (λ (l : List Event). name_of l way) (sym within.until) ∙ t.2) in
    record {
      moment = gap.0;
      within = record {
        since = gap.2 ++ within.since;
        from = simp (gap.4, within.from, append_assoc);
        begun = λ none. within.begun (ends_none _ _ (rw own_append at none)).1;
        later = gap.1;
        until = within.until ∙ gap.3;
      };
      absent = gap.5;
    })
    (λ none. record { moment = new.seen; within = last; absent = none_has plan id real new.seen legal none })
    (search_ways plan id real new.seen places)

-- what the clerk knows of names: those that it knew, after its own steps
pub clerk_names : (old : Token) (acts : List Event) (new : Token) (way : ℕ) → old.number ≡ 0 → Grows acts old new
    → name_of new.seen way ≡ name_of (acts ++ old.seen) way
clerk_names old acts new way clerk grows = grind (arith, exact_names grows.rest old.seen way)

pub clerk_looks : (old : Token) (count by : ℕ) (new : Token) (way : ℕ) → old.number ≡ 0 → Grows (looks count by) old new
    → name_of new.seen way ≡ name_of old.seen way
clerk_looks old count by new way clerk grows =
    clerk_names old (looks count by) new way clerk grows ∙ looks_names count by old.seen way

-- and a claim stays open until it clears it
pub clerk_turn : (old : Token) (acts : List Event) (new : Token) (group : ℕ) → old.number ≡ 0 → Grows acts old new
    → ClearsNothing acts → IsOpen old.directory.plan old.seen group
    → turn_of old.directory.plan new.seen group ≡ turn_of old.directory.plan old.seen group
clerk_turn old acts new group clerk grows quiet odd = rw grows.seen
    (quiet_turn old.directory.plan grows.rest old.seen group (rw (← grows.acts_are, clerk) at quiet)
    (rw grows.seen at grows.legal) odd)

pub clerk_on : (way : ℕ → ℕ) (name : ℕ) (old mid new : Token) (count : ℕ) → mid.number ≡ old.number
    → Grows (looked mid.number ∷ []) mid new → name_of new.seen (way count) ≢ name
    → PassedByClerk way name old count mid → PassedByClerk way name old (suc count) new
clerk_on way name old mid new count same look other passed clerk =
    up_to (λ at. name_of new.seen (way at) ≢ name) count
    (λ at near has. passed clerk at near
    (sym (clerk_looks mid 1 mid.number new (way at) (same ∙ clerk) look) ∙ has))
    other

-- what a name was not at a moment of a call it was not at a moment of a longer one
pub lacked_later : {way id : ℕ} {old mid new : Token} (rest : List Event) → new.seen ≡ rest ++ mid.seen
    → LackedName way id old mid → LackedName way id old new
lacked_later rest is name = let within = name.within in record {
  moment = name.moment;
  within = record {
    since = within.since;
    from = within.from;
    begun = within.begun;
    later = rest ++ within.later;
    until = rw (is, within.until, append_assoc);
  };
  other = name.other;
}

pub way_inside : (of groups place : ℕ) → of < groups → place < 8 → 8 * of + place < 8 * groups
way_inside of groups place low near = omega arith

-- the first eight places of an id are ways of its group, and the others of its second group
module _ (plan : Plan) (id : ℕ) where
  pub way_at_first : (place : ℕ) → place < 8 → way_at plan id place ≡ 8 * group_of plan id + place
  way_at_first place low = let half : place / 8 ≡ 0 = omega arith in rw half (omega arith)

  pub way_at_second : (place : ℕ) → 8 ≤ place → place < places
      → way_at plan id place ≡ 8 * second_of plan id + (place - 8)
  way_at_second place high low = let half : place / 8 ≡ 1 = omega arith in rw half (omega arith)

  -- a way of one of the groups is at a place
  pub at_first : (way : ℕ) → group_of_way way ≡ group_of plan id → IsWayOf plan id way
  at_first way is = (way % 8, omega arith, grind (arith, way_at_first (way % 8)))

  pub at_second : (way : ℕ) → group_of_way way ≡ second_of plan id → IsWayOf plan id way
  at_second way is = (8 + way % 8, omega arith, grind (arith, way_at_second (8 + way % 8)))

-- a second group by the directory's plan is one by the token's
pub second_is : (id : ℕ) (old : Token) {second : ℕ} {plan : Plan} {now : Opened} → old.directory ≡ now
    → plan ≡ now.plan → second ≡ second_of plan id → second ≡ second_of old.directory.plan id
second_is id old of_now of is =
    is ∙ ap (λ (p : Plan). second_of p id) (of ∙ ap (λ (d : Opened). d.plan) (sym of_now))

-- what holds of the ways of both groups holds at each of the id's places
pub each_place : (id first second : ℕ) (old : Token) (P : ℕ → Type 0) → first ≡ group_for old id
    → second ≡ second_of old.directory.plan id → ((at : ℕ) → at < 8 → P (way_in first at))
    → ((at : ℕ) → at < 8 → P (way_in second at)) → (place : ℕ) → place < places → P (way_for old id place)
each_place id first second old P first_is second_is in_first in_second place near =
    let plan = old.directory.plan in
    dite (dec_le 8 place)
    (λ (far : 8 ≤ place). subst P
    (ap (λ (g : ℕ). 8 * g + (place - 8)) second_is ∙ sym (way_at_second plan id place far near))
    (in_second (place - 8) (omega arith)))
    (λ few.
    let before : place < 8 = omega arith in
    subst P (ap (λ (g : ℕ). 8 * g + place) first_is ∙ sym (way_at_first plan id place before))
    (in_first place before))

-- some looks, and then others
pub looks_both : (count more by : ℕ) → looks more by ++ looks count by ≡ looks (count + more) by
looks_both count zero by = ap (λ (k : ℕ). looks k by) (omega arith)
looks_both count (suc more) by =
    let k : suc (count + more) ≡ count + suc more = omega arith in
    ap (λ (l : List Event). looked by ∷ l) (looks_both count more by) ∙ ap (λ (n : ℕ). looks n by) k

pub looks_after : {old mid new : Token} (count more : ℕ) → Grows (looks count old.number) old mid
    → Grows (looks more mid.number) mid new → Grows (looks (count + more) old.number) old new
looks_after {old = old} {mid = mid} {new = new} count more a b =
    subst (λ (l : List Event). Grows l old new)
    (looks_both count more old.number) (grows_next (looks more) old mid new (looks count old.number) a b)

-- a name that the clerk didn't see there isn't there after other looks
pub still_passed : (way : ℕ → ℕ) (name : ℕ) (old mid new : Token) (more : ℕ) → old.number ≡ 0 → mid.number ≡ 0
    → Grows (looks more mid.number) mid new → PassedByClerk way name old 8 mid → PassedByClerk way name old 8 new
still_passed way name old mid new more clerk same b passed _ at below has =
    passed clerk at below (sym (clerk_looks mid more mid.number new (way at) same b) ∙ has)

-- STEPS THAT CHANGE NO NAME
abbrev pub LeavesNames : Token → Token → Type 0
LeavesNames old new =
    (acts : List Event) × Grows acts old new × ((way : ℕ) → name_of (acts ++ old.seen) way ≡ name_of old.seen way)

pub leaves_names : (old new : Token) (way : ℕ) → old.number ≡ 0 → LeavesNames old new
    → name_of new.seen way ≡ name_of old.seen way
leaves_names old new way clerk leaves = clerk_names old leaves.0 new way clerk leaves.1 ∙ leaves.2 way

pub looks_leave : (count : ℕ) (old new : Token) → Grows (looks count old.number) old new → LeavesNames old new
looks_leave count old new grows = (looks count old.number, grows, looks_names count old.number old.seen)

-- a look at a mark, and a choice
load_then_turn : (group of bits : ℕ) (old mid new : Token) → LoadsMarks group old mid → TurnsMarks of bits mid new
    → LeavesNames old new
load_then_turn group of bits old mid new loads turns = (_, grows_on old mid new _ _ loads turns, λ way. refl)

pub takes_leave : (way : ℕ) (old new : Token) (taken : Bool) → TakesMark way old new taken → LeavesNames old new
takes_leave way old new true takes =
    load_then_turn (group_of_way way) (group_of_way way) (mark_bit way) old takes.0 new takes.1.looks takes.2
takes_leave way old new false takes = (_, takes.looks, λ way. refl)

pub chosen_group : (group way : ℕ) (old new : Token) → ChoosesWay group way old new → group_of_way way ≡ group
chosen_group group way old new chooses = omega (arith, chooses.way_is, chooses.chooses.place_is)

pub chooses_leave : (group way : ℕ) (old new : Token) → ChoosesWay group way old new → LeavesNames old new
chooses_leave group way old new chooses =
    load_then_turn group group chooses.bits old chooses.looked new chooses.looks chooses.turns
