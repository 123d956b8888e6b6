-- What the clerk sees of room, writes of hints, and gains where it admits an id.
use Rattle.std.proofs.Common.{◌≡◌, ◌≢◌, ℕ, zero, suc, ◌+◌, ◌/◌, ◌%◌, ◌<◌, ◌⊎◌, ⊎_elim, List, [], ◌∷◌, ◌++◌, ◌==◌, cond}
use Rattle.std.proofs.Common.{refl, sym, ap, ◌∙◌, subst, arith, Option, Some, None, Ok, Err, get_or, set}
use Rattle.std.proofs.Common.{get_or-set_other, get_or-set_same, inl, inr, eq-eqb, ne_eqb}
use Rattle.std.proofs.lemmas.Bool.Decides.{nat_tests}
use Rattle.std.specs.Prelude.{IfSome, Result}
use Rattle.std.specs.Int.{to_le_bytes, w64}
use mathlib.Core.Logic.{dite}
use native.Mathlib.Decide.{ℕ_discrete}
use Rattle.nr_ids.specs.declared.admissions.Refused.{Refused}
use Rattle.nr_ids.specs.declared.admissions.Refused.TheVariants as refused
use Rattle.nr_ids.specs.declared.admissions.Room.{Room}
use Rattle.nr_ids.specs.declared.plan.Plan.{Plan}
use Rattle.nr_ids.specs.Groups.{IsWayOf, group_of, group_of_way, hint_of, way_at, way_in, ways}
use Rattle.nr_ids.specs.Events.{Event, cleared, hinted, looked, named, touched, unnamed, hint_at, hint_in, hints_of}
use Rattle.nr_ids.specs.Events.{looks, name_of, turn_of, last_turn, IsOpen, KeepsHints, MayName}
use Rattle.nr_ids.specs.Looking.{FindsAt, HasRoom, HintsNames, Missed, PassedByClerk, Rooms, Scans, SeesRoom, SetsHint}
use Rattle.nr_ids.specs.Looking.{group_for, second_for, way_for}
use Rattle.nr_ids.specs.Answers.{Admits, AnswersClaim, Gives, GivesWay, HasClaim, LooksForClaim}
use Rattle.nr_ids.specs.Tokens.{Opened, Token, Grows, Sits, token}
use Rattle.nr_ids.proofs.Logs.{cond_same, cond_else, looks_clear_nothing, looks_names}
use Rattle.nr_ids.proofs.Hinted.{exact_hints, hint_there}
use Rattle.nr_ids.proofs.Calls.{at_first, at_second, clerk_looks, clerk_names, clerk_turn, each_place, grows_next}
use Rattle.nr_ids.proofs.Calls.{grows_on, looks_after, looks_both, still_passed}
use Rattle.nr_ids.proofs.Seats.{Caller}
use Rattle.nr_ids.proofs.Through.{SomeLooks, finds_for_claim, looks_for_claim, looks_in_both, looks_on_for, looks_up_to}

-- the seat is a clerk's, and stays one
abbrev pub IsClerk : Caller → Type 0
IsClerk seat = Sits (token seat).directory seat × ((token seat).number ≡ 0) × HintsNames (token seat)

pub clerk_so : {now : Opened} {new : Caller} → Sits now new → (token new).number ≡ 0 → HintsNames (token new)
    → IsClerk new
clerk_so sits clerk names = (rw sits.own sits, clerk, names)

-- HINTS AND NAMES
-- what the clerk knows of hints: those that it knew, after its own steps
pub clerk_hints : {old new : Token} {acts : List Event} (group : ℕ) → old.number ≡ 0 → Grows acts old new
    → hints_of new.seen group ≡ hints_of (acts ++ old.seen) group
clerk_hints {old = old} group clerk grows =
    grind (arith, exact_hints old.directory.plan grows.rest old.seen group)

pub looks_hints : (count by : ℕ) (seen : List Event) (group : ℕ)
    → hints_of (looks count by ++ seen) group ≡ hints_of seen group
looks_hints zero by seen group = refl
looks_hints (suc count) by seen group = looks_hints count by seen group

-- where each way is as it was, or has no hint or some name, hints are of names as before
of_names : (old new : Token) → new.directory ≡ old.directory → HintsNames old
    → ((way : ℕ)
    → ((hint_in new.seen way ≡ hint_in old.seen way) × (name_of new.seen way ≡ name_of old.seen way))
    ⊎ (hint_in new.seen way ≢ 0 → name_of new.seen way ≢ 0))
    → HintsNames new
of_names old new directory were each way inside some = grind (arith, each way, were way)

pub still_of_names : {old new : Token} {acts : List Event} → old.number ≡ 0 → Grows acts old new
    → ((way : ℕ) → name_of (acts ++ old.seen) way ≡ name_of old.seen way)
    → ((group : ℕ) → hints_of (acts ++ old.seen) group ≡ hints_of old.seen group) → HintsNames old → HintsNames new
still_of_names {old = old} {new = new} {acts = acts} clerk grows names hints were way inside some =
    grind (
      arith,
      clerk_hints (group_of_way way) clerk grows,
      hints (group_of_way way),
      clerk_names old acts new way clerk grows,
      names way,
      were way,
    )

pub looks_of_names : {old new : Token} (count : ℕ) → old.number ≡ 0 → Grows (looks count old.number) old new
    → HintsNames old → HintsNames new
looks_of_names {old = old} count clerk grows =
    still_of_names clerk grows (looks_names count old.number old.seen) (looks_hints count old.number old.seen)

pub still_clerk : {now : Opened} {old new : Caller} {acts : List Event} → IsClerk old → Sits now new
    → Grows acts (token old) (token new)
    → ((way : ℕ) → name_of (acts ++ (token old).seen) way ≡ name_of (token old).seen way)
    → ((group : ℕ) → hints_of (acts ++ (token old).seen) group ≡ hints_of (token old).seen group) → IsClerk new
still_clerk was sits grows names hints =
    clerk_so sits (grows.number ∙ was.1) (still_of_names was.1 grows names hints was.2)

pub looked_clerk : {now : Opened} {old new : Caller} (count : ℕ) → IsClerk old → Sits now new
    → Grows (looks count (token old).number) (token old) (token new) → IsClerk new
looked_clerk count was sits grows = clerk_so sits (grows.number ∙ was.1) (looks_of_names count was.1 grows was.2)

scan_looks : (id : ℕ) (old new : Token) (found : Option ℕ) → Scans id old new found → SomeLooks old new
scan_looks id old new (Some way) finds = looks_up_to way id old new finds.looks
scan_looks id old new None misses = looks_in_both id old new misses.looks

pub scanned_clerk : {now : Opened} {old new : Caller} (id : ℕ) (found : Option ℕ) → IsClerk old → Sits now new
    → Scans id (token old) (token new) found → IsClerk new
scanned_clerk {old = old} {new = new} id found was sits scans =
    let looked = scan_looks id (token old) (token new) found scans in
    looked_clerk looked.0 was sits looked.1

-- ROOM
-- where each place of a group has a hint, each has a name
pub none_free : (group : ℕ) (old new : Token) → old.number ≡ 0 → Grows (looked old.number ∷ []) old new
    → HintsNames old → group < old.directory.plan.groups
    → ((place : ℕ) → place < 8 → hint_at (hints_of new.seen group) place ≢ 0) → PassedByClerk (way_in group) 0 old 8 new
none_free group old new clerk grows were low some _ place near none =
    grind (
      arith,
      looks_of_names 1 clerk grows were (way_in group place),
      hint_there new.seen group place near,
      some place near,
      grows.directory,
    )

module _ (id first second : ℕ) (old mid new : Token) (clerk : old.number ≡ 0) (first_is : first ≡ group_for old id)
    (second_is : second ≡ second_for old id)
    (low : (first < old.directory.plan.groups) × (second < old.directory.plan.groups)) (here there : Room)
    (a : SeesRoom first old mid here) (b : SeesRoom second mid new there) where
  both_grow : Grows (looks 2 old.number) old new
  both_grow = looks_after 1 1 a.grows b.grows

  mid_clerk : mid.number ≡ 0
  mid_clerk = a.grows.number ∙ clerk

  room_at : (way : ℕ) → IsWayOf old.directory.plan id way → way < ways old.directory.plan → name_of new.seen way ≡ 0
      → HasRoom id way old new
  room_at way place inside free = record { grows = both_grow; inside = inside; place = place; free = free }

  -- one of the rooms that were found, or none was
  pub room_found : (found : Option ℕ) → IfSome found (λ way. (here.way ≡ Some way) ⊎ (there.way ≡ Some way))
      → (found ≡ None → (here.way ≡ None) × (there.way ≡ None)) → Rooms id old new found
  room_found (Some way) some none = ⊎_elim
      (λ (is : here.way ≡ Some way). let h = rw is at a.free in
      room_at way (at_first old.directory.plan id way (h.0 ∙ first_is)) (let e = h.0 in let l = low.0 in omega arith)
      (clerk_looks mid 1 mid.number new way mid_clerk b.grows ∙ h.1))
      (λ (is : there.way ≡ Some way). let h = rw is at b.free in
      room_at way (at_second old.directory.plan id way (h.0 ∙ second_is))
      (let e = h.0 in let l = low.1 in omega arith) h.1) some
  room_found None some none = let both = none refl in (
    both_grow,
    λ place near has.
        let same : way_for new id place ≡ way_for old id place
        = ap (λ (d : Opened). way_at d.plan id place) both_grow.directory in
        each_place id first second old (λ way. name_of new.seen way ≢ 0) first_is second_is
        (still_passed (way_in first) 0 old mid new 1 clerk mid_clerk b.grows (rw both.0 at a.full) clerk)
        ((rw both.1 at b.full) mid_clerk) place near (ap (name_of new.seen) (sym same) ∙ has),
  )

-- A HINT IS WRITTEN
module _ (way hint word : ℕ) (old mid : Token) (clerk : old.number ≡ 0) (look : Grows (looked old.number ∷ []) old mid)
    (is : to_le_bytes w64 word ≡ set (to_le_bytes w64 (hints_of mid.seen (group_of_way way))) (way % 8) hint) where
  hints : ℕ
  hints = hints_of mid.seen (way / 8)

  other_place : (place : ℕ) → place ≢ way % 8
      → hint_at word place ≡ hint_at (hints_of mid.seen (group_of_way way)) place
  other_place place ne =
      ap (λ (l : List ℕ). get_or l place 0) is
      ∙ get_or-set_other (to_le_bytes w64 (hints_of mid.seen (group_of_way way))) (way % 8) place hint 0 ne

  own_place : hint_at word (way % 8) ≡ hint
  own_place = grind (arith, get_or-set_same)

  pub keeps_others : name_of old.seen way ≡ 0 → KeepsHints mid.seen (group_of_way way) word
  keeps_others free place low some =
      let there : place ≡ way % 8 → way_in (way / 8) place ≡ way = λ e. omega arith in
      grind (arith, other_place place, clerk_looks old 1 old.number mid way clerk look)

  module _ (new : Token) (write : Grows (touched mid.number (hinted (group_of_way way) word) ∷ []) mid new) where
    after : (group : ℕ) → hints_of new.seen group ≡ cond (group_of_way way == group) word (hints_of old.seen group)
    after group = rw (clerk_hints group (look.number ∙ clerk) write, clerk_hints group clerk look)

    pub sets_hint : SetsHint way hint old new
    sets_hint = record {
      hints = word;
      grows =
          grows_next (λ by. touched by (hinted (group_of_way way) word) ∷ []) old mid new (looked old.number ∷ []) look
          write;
      set = grind (arith, nat_tests, after (group_of_way way), own_place);
      others = λ other apart. rw (after (group_of_way other)) (dite (ℕ_discrete (way / 8) (other / 8))
          (λ (e : way / 8 ≡ other / 8). rw (eq-eqb (way / 8) (other / 8) e)
          (other_place (other % 8) (λ same. apart (omega (arith, e, same)))
          ∙ rw (clerk_hints (way / 8) clerk look, e)))
          (λ ne. rw (ne_eqb (way / 8) (other / 8) ne)));
    }

-- AN ADMISSION
-- a way of the id's has its name
pub named_for_claim : {id way : ℕ} {old first : Token} (new : Token) → old.number ≡ 0
    → Grows (looks 1 old.number) old first → FindsAt id first new way
    → AnswersClaim id old new (Err (refused.Named way))
named_for_claim {id = id} {way = way} {first = first} new clerk look found =
    let looked = looks_up_to way id first new found.looks in (
      (
        record { turned = first; turn = look; finds = found },
        record {
          inside = subst (λ (d : Opened). way < ways d.plan) (sym looked.1.directory) found.named.inside;
          has = found.named.exact (look.number ∙ clerk);
        },
      ),
      λ same. absurd (cc (same)),
    )

-- a claim that was found open still is after looks for the name
pub claim_stays : (id turn : ℕ) {old first new : Token} → old.number ≡ 0 → Grows (looks 1 old.number) old first
    → Missed id first new → turn_of first.directory.plan first.seen (group_for first id) ≡ turn → turn % 2 ≢ 0
    → (turn % 2 ≡ 1 → turn < last_turn) → HasClaim id turn new
claim_stays id turn {first = first} {new = new} clerk look missed is odd early =
    let scan = looks_in_both id first new missed.looks in
    let by : first.number ≡ 0 = look.number ∙ clerk in
    let is_open : turn % 2 ≡ 1 = omega (arith, odd) in
    let same : turn_of first.directory.plan new.seen (group_for first id) ≡ turn
    = clerk_turn first _ new (group_for first id) by scan.1 (looks_clear_nothing scan.0 first.number)
    (ap (λ (k : ℕ). k % 2) is ∙ is_open)
    ∙ is in record {
      turn_is = subst (λ (d : Opened). turn_of d.plan new.seen (group_of d.plan id) ≡ turn) (sym scan.1.directory) same;
      is_open = is_open;
      early = early is_open;
      absent = missed.exact by;
    }

-- a look for room, and a hint
pub record Hinting (id way : ℕ) (old mid new : Token) : Type 0 where
  pub real : 0 < id
  pub clerk : old.number ≡ 0
  pub room : HasRoom id way old mid
  pub hint : SetsHint way (hint_of old.directory.plan id) mid new

pub hints_way : {id way hint : ℕ} {plan : Plan} {now : Opened} {old mid new : Token} → 0 < id → old.number ≡ 0
    → old.directory ≡ now → plan ≡ now.plan → HasRoom id way old mid → hint ≡ hint_of plan id
    → SetsHint way hint mid new → Hinting id way old mid new
hints_way {id = id} {way = way} {mid = mid} {new = new} real clerk own of room is sets = record {
  real = real;
  clerk = clerk;
  room = room;
  hint = subst (λ (hint : ℕ). SetsHint way hint mid new)
      (is ∙ ap (λ (p : Plan). hint_of p id) (of ∙ ap (λ (d : Opened). d.plan) (sym own))) sets;
}

-- and then a name and a clearing
module _ {id way : ℕ} {old mid new : Token} (it : Hinting id way old mid new) where
  abbrev pub hinting : List Event
  hinting = touched mid.number (hinted (group_of_way way) it.hint.hints) ∷ looked mid.number ∷ []

  all : Grows (hinting ++ looks 2 old.number) old new
  all = grows_on old mid new _ hinting it.room.grows it.hint.grows

  same_names : (other : ℕ) → name_of new.seen other ≡ name_of old.seen other
  same_names other = clerk_names _ _ _ other it.clerk all

  same_from_room : (other : ℕ) → name_of new.seen other ≡ name_of mid.seen other
  same_from_room other = same_names other ∙ sym (clerk_looks old 2 old.number mid other it.clerk it.room.grows)

  -- while a claim of the id's group is open, and no way has the id
  module _ {turn : ℕ} (claim : HasClaim id turn old) where
    open_claim : IsOpen old.directory.plan old.seen (group_for old id)
    open_claim = ap (λ (k : ℕ). k % 2) claim.turn_is ∙ claim.is_open

    pub may_admit : MayName old.directory.plan new.seen way id
    may_admit = record {
      inside = it.room.inside;
      real = it.real;
      place = it.room.place;
      hint = it.hint.set;
      free = same_from_room way ∙ it.room.free;
      open_claim =
          rw (clerk_turn old _ new (group_for old id) it.clerk all (tt, (tt, (tt, (tt, tt)))) open_claim) open_claim;
      absent = λ other has. claim.absent other (sym (same_names other) ∙ has);
    }

    pub still_open : {named_at : Token} → Grows (named way id ∷ []) new named_at
        → turn_of old.directory.plan named_at.seen (group_for old id) ≡ turn
    still_open {named_at = named_at} names =
        clerk_turn old _ named_at (group_for old id) it.clerk (grows_on old new named_at _ _ all names)
        (tt, (tt, (tt, (tt, (tt, tt))))) open_claim
        ∙ claim.turn_is

  module _ {named_at last : Token} {group : ℕ} (names : Grows (named way id ∷ []) new named_at)
      (group_is : group ≡ group_for old id) (clears : Grows (cleared group ∷ []) named_at last) where
    ends : Grows (cleared (group_for old id) ∷ named way id ∷ []) new last
    ends = grows_on new named_at last _ _ names (rw group_is at clears)

    name_after : (other : ℕ) → name_of last.seen other ≡ cond (way == other) id (name_of new.seen other)
    name_after other = clerk_names _ _ _ other (all.number ∙ it.clerk) ends

    has : name_of last.seen way ≡ id
    has = name_after way ∙ cond_same id (name_of new.seen way) way way refl

    whole : Grows
        (cleared (group_for old id) ∷ named way id ∷ touched old.number (hinted (group_of_way way) it.hint.hints)
        ∷ looks 3 old.number) old last
    whole = grows_on old new last _ _
        (grows_next (λ by. touched by (hinted (group_of_way way) it.hint.hints) ∷ looked by ∷ []) old mid new
        _ it.room.grows it.hint.grows) ends

    pub gives_way : GivesWay id way old last
    gives_way = record {
      hints = it.hint.hints;
      grows = whole;
      free = sym (same_names way) ∙ same_from_room way ∙ it.room.free;
      has = record {
        inside = subst (λ (d : Opened). way < ways d.plan) (sym whole.directory) it.room.inside;
        has = has;
      };
    }

    -- the way has a name now, and no other way another hint
    pub given_of_names : HintsNames old → HintsNames last
    given_of_names were = of_names mid last (ends.directory ∙ it.hint.grows.directory)
        (looks_of_names 2 it.clerk it.room.grows were)
        (λ other. dite (ℕ_discrete way other)
        (λ (e : way ≡ other). inr (λ _ none. let zero_id : id ≡ 0 = sym has ∙ ap (name_of last.seen) e ∙ none in
        absurd (omega (arith, zero_id, it.real))))
        (λ ne. inl (
          ap (λ (n : ℕ). hint_at n (other % 8)) (clerk_hints (group_of_way other) (all.number ∙ it.clerk) ends)
              ∙ it.hint.others other (λ e. ne (sym e)),
          name_after other ∙ cond_else id (name_of new.seen other) way other ne ∙ same_from_room other,
        )))

-- in all, where the claim is open
pub admission : {id turn : ℕ} {old mid : Token} (new : Token) (answer : Result ℕ Refused) → old.number ≡ 0
    → LooksForClaim id old mid × HasClaim id turn mid → Gives id mid new answer → Admits id old new answer
admission {id = id} {old = old} {mid = mid} new (Ok way) clerk claim gives =
    let looked = looks_for_claim claim.0 in
    let closing : ℕ → ℕ → ℕ → List Event
    = λ of by hints. cleared of ∷ named way id ∷ touched by (hinted (group_of_way way) hints) ∷ looks 3 by in (
      record {
        scanned = mid;
        looks_for = claim.0;
        hints = gives.hints;
        grows = subst (λ (by : ℕ). Grows (closing (group_for old id) by gives.hints) mid new) looked.1.number
            (subst (λ (d : Opened). Grows (closing (group_of d.plan id) mid.number gives.hints) mid new)
            looked.1.directory gives.grows);
      },
      sym (clerk_looks old looked.0 old.number mid way clerk looked.1) ∙ gives.free,
      gives.has,
    )
admission {id = id} {old = old} {mid = mid} new (Err why) clerk claim gives =
    subst (λ (w : Refused). Admits id old new (Err w)) (sym gives.2)
    (record { scanned = mid; looks_for = claim.0; others = gives.0 }, gives.1)

-- a way's name is taken, and then its hint
module _ {way : ℕ} {old mid new : Token} (clerk : old.number ≡ 0) (takes : Grows (unnamed way ∷ []) old mid)
    (hint : SetsHint way 0 mid new) where
  pub unhinted : Grows
      (touched old.number (hinted (group_of_way way) hint.hints) ∷ looked old.number ∷ unnamed way ∷ []) old new
  unhinted =
      grows_next (λ by. touched by (hinted (group_of_way way) hint.hints) ∷ looked by ∷ []) old mid new _ takes
      hint.grows

  pub unnamed_of_names : HintsNames old → HintsNames new
  unnamed_of_names were = of_names old new unhinted.directory were (λ other. dite (ℕ_discrete way other)
      (λ (e : way ≡ other). inr (λ some. absurd (some (ap (hint_in new.seen) (sym e) ∙ hint.set))))
      (λ ne. inl (
        hint.others other (λ e. ne (sym e))
            ∙ ap (λ (n : ℕ). hint_at n (other % 8)) (clerk_hints (group_of_way other) clerk takes),
        clerk_names _ _ _ other clerk unhinted ∙ cond_else 0 (name_of old.seen other) way other ne,
      )))

-- IN ALL
-- what an admission adds to what the clerk knows
pub admits_by : (id way : ℕ) (old new : Token) → Admits id old new (Ok way)
    → (count : ℕ) × (hints : ℕ)
    × Grows
    (cleared (group_for old id) ∷ named way id ∷ touched old.number (hinted (group_of_way way) hints)
    ∷ looks count old.number) old new
admits_by id way old new admits =
    let names = admits.0 in
    let looked = looks_for_claim names.looks_for in (
      looked.0 + 3,
      names.hints,
      subst
          (λ (l : List Event).
          Grows
          (cleared (group_for old id) ∷ named way id ∷ touched old.number (hinted (group_of_way way) names.hints) ∷ l)
          old new)
          (looks_both looked.0 3 old.number) (grows_on old names.scanned new _ _ looked.1 names.grows),
    )

-- and a refusal is a few looks
pub refusal_looks : (id : ℕ) (old new : Token) (why : Refused) → Admits id old new (Err why) → SomeLooks old new
refusal_looks id old new refused.NoClaim admits = (1, admits.0)
refusal_looks id old new (refused.Named way) admits = finds_for_claim admits.0
refusal_looks id old new refused.Full admits = looks_on_for 2 admits.0
