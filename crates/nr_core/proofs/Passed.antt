-- What is known of the retired slots as their list changes: how often each is there, and that the first were reaped.
use Rattle.std.proofs.Common.{List, [], Bool, true, false, arith, get_or, length, refl, remove, set, subst, suc, ℕ}
use Rattle.std.proofs.Common.{◌++◌, ◌+◌, ◌-◌, ◌<◌, ◌∷◌, ◌≡◌, ◌≤◌, slice_index}
use Rattle.std.proofs.lemmas.List.{get_or-set_other, get_or-set_same, length-append}
use Rattle.std.proofs.lemmas.List.Edits.{get_or-remove_above, get_or-remove_below, length-remove}
use Rattle.std.proofs.Math.ListN.{get_or-append}
use Rattle.nr_core.specs.declared.places.Retired.{Retired}
use Rattle.nr_core.specs.Roles.{retirements}
use Rattle.nr_core.specs.SlotLists.{AreReaped, CountsRetirements, CountsMore, CountsFewer}
use Rattle.nr_core.specs.States.{no_retired}
use Rattle.nr_core.specs.Sums.{only}
use Rattle.nr_core.proofs.Sums.{got_at, only-same, term_le, total-append, total-remove}

-- without the slot at a place
pub retired_less : (retired : List Retired) (place : ℕ) (entry : Retired) → place < length retired
    → entry ≡ get_or retired place entry → (slot : ℕ)
    → retirements slot (remove retired place) + only slot entry.slot ≡ retirements slot retired
retired_less retired place entry inside same slot = search (arith, total-remove, got_at)

-- a slot that stands at a place
pub retired_there : (retired : List Retired) (place : ℕ) → place < length retired
    → 0 < retirements (get_or retired place no_retired).slot retired
retired_there retired place inside = search (arith, got_at, term_le, only-same)

module _ (slots : ℕ) (retired after : List Retired) (old new : List ℕ) (slot : ℕ) (same : length new ≡ length old)
    (known : CountsRetirements slots retired old) where
  pub counts_more : CountsMore slot old new
      → ((other : ℕ) → retirements other after ≡ only other slot + retirements other retired)
      → CountsRetirements slots after new
  counts_more more adds = search arith

  pub counts_fewer : CountsFewer slot old new
      → ((other : ℕ) → retirements other after + only other slot ≡ retirements other retired)
      → CountsRetirements slots after new
  counts_fewer fewer takes = search arith

pub retired_last : (retired : List Retired) (entry : Retired) (other : ℕ)
    → retirements other (retired ++ entry ∷ []) ≡ only other entry.slot + retirements other retired
retired_last retired entry other =
    let both = total-append (λ (it : Retired). only other it.slot) retired (entry ∷ []) in omega arith

module _ (count : ℕ) (retired : List Retired) (reaped : List Bool) (known : AreReaped count retired reaped) where
  pub reaped_still : (more : List Retired) → AreReaped count (retired ++ more) reaped
  reaped_still more = search (arith, length-append, get_or-append)

  -- without one of them, or without a later one
  pub reaped_before : (at : ℕ) → at < count → AreReaped (count - 1) (remove retired at) reaped
  reaped_before at early = search (arith, length-remove, get_or-remove_below, get_or-remove_above)

  pub reaped_behind : (at : ℕ) → count ≤ at → at < length retired → AreReaped count (remove retired at) reaped
  reaped_behind at late inside = search (arith, length-remove, get_or-remove_below)

  -- one more was reaped
  pub reaped_too : (slot : ℕ) → slot < length reaped → AreReaped count retired (set reaped slot true)
  reaped_too slot inside = search (arith, get_or-set_same, get_or-set_other)

  -- one that isn't retired was put
  pub reaped_others : (slot : ℕ) → retirements slot retired ≡ 0 → AreReaped count retired (set reaped slot false)
  reaped_others slot none = search (arith, get_or-set_other, retired_there)

pub reaped_tail : (count : ℕ) (first : Retired) (others : List Retired) (reaped : List Bool)
    → AreReaped count (first ∷ others) reaped → AreReaped (count - 1) others reaped
reaped_tail count first others reaped known =
    (omega (arith, known.0), λ place early. known.1 (suc place) (omega arith))

pub reaped_none : (retired : List Retired) (reaped : List Bool) → AreReaped 0 retired reaped
reaped_none retired reaped = (omega arith, λ place first. absurd (omega arith))

-- the slot at a place was taken
pub counts_taken : (slots : ℕ) (retired after : List Retired) (old new : List ℕ) (place : ℕ) (entry : Retired)
    → place < length retired → entry ≡ get_or retired place entry → after ≡ remove retired place
    → length new ≡ length old → CountsRetirements slots retired old → CountsFewer entry.slot old new
    → CountsRetirements slots after new
counts_taken slots retired after old new place entry inside here gone same known fewer =
    search (arith, counts_fewer, retired_less)

-- a slot was put behind the others, or before them
pub counts_put : (slots : ℕ) (retired after : List Retired) (old new : List ℕ) (entry : Retired)
    → after ≡ retired ++ entry ∷ [] → length new ≡ length old → CountsRetirements slots retired old
    → CountsMore entry.slot old new → CountsRetirements slots after new
counts_put slots retired after old new entry put same known more = search (arith, counts_more, retired_last)

-- the first was taken
pub counts_popped : (slots : ℕ) (retired after : List Retired) (old new : List ℕ) (entry : Retired)
    → retired ≡ entry ∷ after → length new ≡ length old → CountsRetirements slots retired old
    → CountsFewer entry.slot old new → CountsRetirements slots after new
counts_popped slots retired after old new entry popped same known fewer = search (arith, counts_fewer)

pub reaped_popped : (count : ℕ) (retired after : List Retired) (entry : Retired) (reaped : List Bool)
    → retired ≡ entry ∷ after → AreReaped count retired reaped → AreReaped (count - 1) after reaped
reaped_popped count retired after entry reaped popped known =
    reaped_tail count entry after reaped (subst (λ it. AreReaped count it reaped) popped known)

-- it was noted of a slot whether it was reaped; of one that may be retired that it was
pub reaped_noted : (count slots : ℕ) (retired : List Retired) (reaped : List Bool) (counts : List ℕ)
    → AreReaped count retired reaped → CountsRetirements slots retired counts → (slot : ℕ) → slot < slots
    → slot < length reaped → (flag : Bool) → (flag ≡ false → slice_index counts slot ≡ 0)
    → AreReaped count retired (set reaped slot flag)
reaped_noted count slots retired reaped counts known counted slot inside wide true none =
    reaped_too count retired reaped known slot wide
reaped_noted count slots retired reaped counts known counted slot inside wide false none =
    let zero = none refl in
    reaped_others count retired reaped known slot (omega (arith, counted.1 slot inside (omega arith)))
