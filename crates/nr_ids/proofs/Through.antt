-- Looks through groups: a way whose hint doesn't fit hadn't the name when the hints were looked at, and the others'
-- names were looked at one by one.
use Rattle.std.proofs.Common.{◌≡◌, ◌≢◌, ℕ, zero, suc, ◌+◌, ◌*◌, ◌%◌, ◌^◌, ◌<◌, ◌≤◌, inl, inr, List, [], ◌∷◌, ◌++◌, ◌==◌}
use Rattle.std.proofs.Common.{cond, refl, sym, ap, ◌∙◌, subst, arith, append_assoc, Option, Some, None, ◌↔◌, ◌-◌}
use Rattle.std.proofs.Common.{eq-eqb, ne_eqb}
use Rattle.std.specs.Int.{bit_at}
use Rattle.nr_ids.specs.Groups.{hint_of, way_in, ways}
use Rattle.nr_ids.specs.Events.{Event, claimed, looked, looks, hint_at, hints_of, name_of, turn_of}
use Rattle.nr_ids.specs.Looking.{FindsAt, FindsIn, IsFirst, LackedName, LooksIn, LooksInBoth, LooksUpTo, Missed}
use Rattle.nr_ids.specs.Looking.{PassedByClerk, PassesGroup, Scans, ScansGroup, fitting, group_for, second_for}
use Rattle.nr_ids.specs.declared.requests.Requested.{Requested}
use Rattle.nr_ids.specs.declared.requests.Requested.TheVariants as requested
use Rattle.nr_ids.specs.Answers.{FindsForClaim, FindsWay, LooksForClaim, LooksOn, LooksUp, Requests, WasOpen, WinsAfter}
use Rattle.nr_ids.specs.Tokens.{Granted, Grows, Token, Within}
use Rattle.std.proofs.lemmas.Bool.Decides.{nat_tests}
use Rattle.nr_ids.proofs.Hinted.{other_hint}
use Rattle.nr_ids.proofs.Calls.{grows_next, absent_within, clerk_looks, clerk_on, each_place, lacked_later, looks_after}
use Rattle.nr_ids.proofs.Calls.{none_has, still_passed, was_open, within_between, within_since, up_to}

-- so many first ways of a group were passed: those whose hint fits by a look at their names
pub record Until (id group : ℕ) (old hinted new : Token) (count : ℕ) : Type 0 where
  pub hints : Grows (looks 1 old.number) old hinted
  pub names :
      Grows (looks (fitting (hints_of hinted.seen group) (hint_of old.directory.plan id) count) hinted.number)
      hinted new
  pub lacked : (place : ℕ) → place < count → LackedName (way_in group place) id old new
  pub exact : PassedByClerk (way_in group) id old count new

-- and these are left
pub record SoFar (id group : ℕ) (old new : Token) (left : ℕ) : Type 0 where
  pub hinted : Token
  pub passed : ℕ
  pub few : passed ≤ 8
  pub until : Until id group old hinted new passed
  pub below : (place : ℕ) → place < passed → bit_at left place ≡ 0
  pub above : (place : ℕ) → passed ≤ place → place < 8
      → (bit_at left place ≡ 1) ↔ (hint_at (hints_of hinted.seen group) place ≡ hint_of old.directory.plan id)
  pub low : left < 2 ^ 8

-- the end of a call whose first look was at hints
within_here : (old hinted new : Token) (rest : List Event) → Grows (looks 1 old.number) old hinted
    → new.seen ≡ rest ++ hinted.seen → Within old new new.seen
within_here old hinted new rest hints seen = within_between rest [] hints seen refl

module _ (id group : ℕ) (real : 0 < id) (old : Token) where
  abbrev hint : ℕ
  hint = hint_of old.directory.plan id

  -- a way whose hint doesn't fit is passed without a look
  until_next : (hinted new : Token) (count : ℕ) → count < 8 → hint_at (hints_of hinted.seen group) count ≢ hint
      → Until id group old hinted new count → Until id group old hinted new (suc count)
  until_next hinted new count near other until = record {
    hints = until.hints;
    names = rw (ne_eqb (hint_at (hints_of hinted.seen group) count) hint other) until.names;
    lacked = up_to (λ place. LackedName (way_in group place) id old new) count until.lacked (record {
      moment = hinted.seen;
      within = within_between [] until.names.rest until.hints refl until.names.seen;
      other = lacks;
    });
    exact = λ clerk. up_to (λ place. name_of new.seen (way_in group place) ≢ id) count (until.exact clerk) (grind (
      arith,
      lacks,
      until.names,
      until.hints.number,
      clerk_looks hinted (fitting (hints_of hinted.seen group) hint count) hinted.number new (way_in group count),
    ));
  }
    where
      lacks : name_of hinted.seen (way_in group count) ≢ id
      lacks = other_hint old.directory.plan hinted.seen group count id until.hints.legal real near other

  skipped : (hinted new : Token) (more count : ℕ) → count + more ≤ 8
      → ((place : ℕ) → count ≤ place → place < count + more → hint_at (hints_of hinted.seen group) place ≢ hint)
      → Until id group old hinted new count → Until id group old hinted new (count + more)
  skipped hinted new zero count few others until =
      subst (Until id group old hinted new) (omega arith) until
  skipped hinted new (suc more) count few others until =
      subst (Until id group old hinted new) (omega arith)
      (until_next hinted new (count + more) (omega (arith, few)) (others (count + more) (omega arith) (omega arith))
      (skipped hinted new more count (omega (arith, few)) (λ place from to. others place from (omega (arith, to)))
      until))

  pub begun : (hinted : Token) (left : ℕ) → Grows (looked old.number ∷ []) old hinted → left < 2 ^ 8
      → ((place : ℕ) → place < 8 → (bit_at left place ≡ 1) ↔ (hint_at (hints_of hinted.seen group) place ≡ hint))
      → Grows [] hinted hinted → SoFar id group old hinted left
  begun hinted left hints low fits none = record {
    hinted = hinted;
    passed = 0;
    few = omega arith;
    until = record {
      hints = hints;
      names = none;
      lacked = λ place near. absurd (omega (arith, near));
      exact = λ clerk place near. absurd (omega (arith, near));
    };
    below = λ place near. absurd (omega (arith, near));
    above = λ place from near. fits place near;
    low = low;
  }

  module _ (mid new : Token) (left at : ℕ) (so_far : SoFar id group old mid left) (first : IsFirst left at)
      (near : at < 8) (look : Grows (looked mid.number ∷ []) mid new) where
    abbrev hinted : Token
    hinted = so_far.hinted

    abbrev hints : ℕ
    hints = hints_of hinted.seen group

    behind : so_far.passed ≤ at
    behind = grind (arith, so_far.below at, first.0)

    -- up to that one
    reached : Until id group old hinted mid at
    reached =
        subst (Until id group old hinted mid) (omega (arith, behind))
        (skipped hinted mid (at - so_far.passed) so_far.passed (omega (arith, behind, near))
        (λ place from to fits.
        let low : place < at = omega (arith, to, behind) in
        absurd (cc (sym (first.1 place low) ∙ (so_far.above place from (omega (arith, low, near))).1 fits)))
        so_far.until)

    fits_here : hint_at hints at ≡ hint
    fits_here = (so_far.above at behind near).0 first.0

    looked_there : Grows (looks (fitting hints hint (suc at)) hinted.number) hinted new
    looked_there =
        rw (eq-eqb (hint_at hints at) hint fits_here) (looks_after (fitting hints hint at) 1 reached.names look)

    last : Within old new new.seen
    last = within_here old hinted new looked_there.rest reached.hints looked_there.seen

    -- it has the name
    pub found_here : way_in group at < ways old.directory.plan → name_of new.seen (way_in group at) ≡ id
        → FindsIn id group old new (way_in group at)
    found_here inside has =
        let place : (8 * group + at) % 8 ≡ at = omega (arith, near) in
        let more : suc at ≡ (8 * group + at) % 8 + 1 = omega (arith, place) in record {
          of = omega (arith, near);
          looks = record {
            hinted = hinted;
            hints = reached.hints;
            names = subst (λ (k : ℕ). Grows (looks (fitting hints hint k) hinted.number) hinted new) more looked_there;
          };
          named =
              record { inside = inside; moment = new.seen; within = last; had = has; exact = λ _. has };
        }

    -- or another one, or none
    pub passed_here : (others : ℕ) → others < left → name_of new.seen (way_in group at) ≢ id
        → ((first place : ℕ) → IsFirst left first → bit_at others place ≡ cond (place == first) 0 (bit_at left place))
        → SoFar id group old new others
    passed_here others fewer other rest =
        let low = so_far.low in record {
          hinted = hinted;
          passed = suc at;
          few = omega (arith, near);
          until = record {
            hints = reached.hints;
            names = looked_there;
            lacked = up_to (λ place. LackedName (way_in group place) id old new) at
                (λ place below. lacked_later look.rest look.seen (reached.lacked place below))
                (record { moment = new.seen; within = last; other = other });
            exact = clerk_on (way_in group) id old mid new at (reached.names.number ∙ reached.hints.number) look other
                reached.exact;
          };
          below = λ place before. grind (arith, nat_tests, rest at place first, first.1 place);
          above = λ place from to.
              let ne : place ≢ at = λ e. absurd (omega (arith, e, from)) in
              let same : bit_at others place ≡ bit_at left place
              = grind (arith, nat_tests, rest at place first) in
              let was = so_far.above place (omega (arith, from, behind)) to in (
                λ on. was.0 (sym same ∙ on),
                λ fits. same ∙ was.1 fits,
              );
          low = omega (arith, fewer, low);
        }

  -- where none is left, no way of the group had the name
  pub passed_all : (new : Token) (left : ℕ) → SoFar id group old new left → ((place : ℕ) → bit_at left place ≡ 0)
      → PassesGroup id group old new
  passed_all new left so_far none =
      let few = so_far.few in
      let all : Until id group old so_far.hinted new 8
      = subst (Until id group old so_far.hinted new) (omega (arith, few))
      (skipped so_far.hinted new (8 - so_far.passed) so_far.passed (omega (arith, few))
      (λ place from to fits. absurd
      (cc (sym (none place) ∙ (so_far.above place from (omega (arith, to, few))).1 fits)))
      so_far.until) in record {
        looks = record { hinted = so_far.hinted; hints = all.hints; names = all.names };
        lacked = all.lacked;
        exact = all.exact;
      }

-- HOW MANY LOOKS
abbrev pub SomeLooks : Token → Token → Type 0
SomeLooks old new = (count : ℕ) × Grows (looks count old.number) old new

pub looks_in : {id group among : ℕ} {old new : Token} → LooksIn id group among old new → SomeLooks old new
looks_in {id = id} {group = group} {among = among} {old = old} through =
    let more : ℕ = fitting (hints_of through.hinted.seen group) (hint_of old.directory.plan id) among in
    (1 + more, looks_after 1 more through.hints through.names)

looks_twice : {old mid new : Token} → SomeLooks old mid → SomeLooks mid new → SomeLooks old new
looks_twice a b = (a.0 + b.0, looks_after a.0 b.0 a.1 b.1)

pub looks_in_both : (id : ℕ) (old new : Token) → LooksInBoth id old new → SomeLooks old new
looks_in_both id old new both = looks_twice (looks_in both.first) (looks_in both.second)

pub looks_up_to : (way id : ℕ) (old new : Token) → LooksUpTo way id old new → SomeLooks old new
looks_up_to way id old new (inl first) = looks_in first.1
looks_up_to way id old new (inr second) = looks_twice (looks_in second.1.1) (looks_in second.1.2)

pub looks_for_claim : {id : ℕ} {old new : Token} → LooksForClaim id old new → SomeLooks old new
looks_for_claim {id = id} {new = new} for_claim =
    looks_twice (1, for_claim.turn) (looks_in_both id for_claim.turned new for_claim.both)

pub finds_for_claim : {id way : ℕ} {old new : Token} → FindsForClaim id old new way → SomeLooks old new
finds_for_claim {id = id} {way = way} {new = new} found =
    looks_twice (1, found.turn) (looks_up_to way id found.turned new found.finds.looks)

pub looks_on_for : {id : ℕ} (more : ℕ) {old new : Token} → LooksOn id more old new → SomeLooks old new
looks_on_for more on = looks_twice (looks_for_claim on.looks_for) (more, on.others)

pub looks_up : (id : ℕ) (old new : Token) (found : Option ℕ) → LooksUp id old new found → SomeLooks old new
looks_up id old new (Some way) finds = looks_up_to way id old new finds.looks
looks_up id old new None finds = looks_in_both id old new finds.0

pub way_looks : (id : ℕ) (old new : Token) (found : Option ℕ) → FindsWay id old new found → SomeLooks old new
way_looks id old new (Some way) finds = looks_up_to way id old new finds.0.looks
way_looks id old new None finds = looks_in_both id old new finds.0

-- of a request that was granted nothing
pub request_looks : (id : ℕ) (old new : Token) (answer : Requested)
    → ((claim : Granted) → answer ≢ requested.Granted claim) → Requests id old new answer → SomeLooks old new
request_looks id old new (requested.Granted claim) none requests = absurd (none claim refl)
request_looks id old new (requested.Named way) none requests = finds_for_claim requests
request_looks id old new requested.Busy none requests = (1, requests.0)
request_looks id old new requested.Outrun none requests = looks_on_for 1 requests.0
request_looks id old new requested.Worn none requests = (1, requests.0)

-- and of one that was granted a claim
pub grant_looks : (id : ℕ) (old new : Token) → WinsAfter id old new
    → (count : ℕ) × Grows (claimed old.number id ∷ looks count old.number) old new
grant_looks id old new won = let looked = looks_for_claim won.looks_for in (
  looked.0,
  grows_next (λ by. claimed by id ∷ []) old won.scanned new
      (looks looked.0 old.number) looked.1 won.wins.grows,
)

-- BOTH GROUPS
-- a scan found the name in the id's group
pub found_first : (id group way : ℕ) (old new : Token) → group ≡ group_for old id → FindsIn id group old new way
    → FindsAt id old new way
found_first id group way old new is found = record {
  looks = inl (found.of ∙ is, rw is at found.looks);
  named = found.named;
}

module _ (id first second : ℕ) (old mid new : Token) (first_is : first ≡ group_for old id)
    (second_is : second ≡ second_for old id) (a : PassesGroup id first old mid) where
  by_first : LooksIn id (group_for old id) 8 old mid
  by_first = rw first_is at a.looks

  first_looks : SomeLooks old mid
  first_looks = looks_in a.looks

  -- or in its second group
  found_second : (way : ℕ) → FindsIn id second mid new way → FindsAt id old new way
  found_second way found = record {
    looks = inr (
      found.of ∙ second_is,
      (mid, by_first, rw second_is at found.looks),
    );
    named = let grows = first_looks.1 in let named = found.named in record {
      inside = rw grows.directory at named.inside;
      moment = named.moment;
      within = within_since grows named.within;
      had = named.had;
      exact = λ clerk. named.exact (grows.number ∙ clerk);
    };
  }

  -- or in neither
  missed_both : 0 < id → PassesGroup id second mid new → Missed id old new
  missed_both real b =
      let second_looks = looks_in b.looks in
      let rest = second_looks.1 in
      let grows = looks_after first_looks.0 second_looks.0 first_looks.1 rest in
      let since = a.looks.names in
      let hinted = a.looks.hinted in
      let here : Within old new new.seen
      = within_here old hinted new (rest.rest ++ since.rest) a.looks.hints
      (rest.seen ∙ ap (λ (l : List Event). rest.rest ++ l) since.seen
      ∙ sym (append_assoc rest.rest since.rest hinted.seen)) in
      let lacked
      = each_place id first second old (λ way. LackedName way id old new) first_is second_is
      (λ at low. lacked_later rest.rest rest.seen (a.lacked at low))
      (λ at low. let lack = b.lacked at low in record {
        moment = lack.moment;
        within = within_since first_looks.1 lack.within;
        other = lack.other;
      }) in
      record {
        looks = record {
          mid = mid;
          first = by_first;
          second = rw second_is at b.looks;
        };
        absent = absent_within id real old new grows.legal here lacked;
        passed = λ place near. let lack = lacked place near in search;
        exact = λ clerk. none_has old.directory.plan id real new.seen grows.legal
            (each_place id first second old (λ way. name_of new.seen way ≢ id) first_is second_is
            (still_passed (way_in first) id old mid new second_looks.0 clerk (first_looks.1.number ∙ clerk) rest a.exact
            clerk)
            (b.exact (first_looks.1.number ∙ clerk)));
      }

  pub scanned_both : 0 < id → (found : Option ℕ) → ScansGroup id second mid new found → Scans id old new found
  scanned_both real (Some way) b = found_second way b
  scanned_both real None b = missed_both real b

-- where a claim wasn't granted, another was within the call
pub outrun : (id found : ℕ) (old first second third : Token) → Grows (looks 1 old.number) old first
    → LooksInBoth id first second → turn_of old.directory.plan first.seen (group_for old id) ≡ found → found % 2 ≡ 0
    → Grows (looks 1 second.number) second third → turn_of old.directory.plan third.seen (group_for old id) ≢ found
    → WasOpen id old third
outrun id found old first second third turn scan value even look changed =
    let all = (looks_in_both id first second scan).1 in
    was_open id old first third (look.rest ++ all.rest) turn
    (look.seen ∙ ap (λ (l : List Event). look.rest ++ l) all.seen ∙ sym (append_assoc look.rest all.rest first.seen))
    (ap (λ (k : ℕ). k % 2) value ∙ even) (λ still. changed (still ∙ value))
