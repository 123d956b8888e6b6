-- The retired slots by their place.
use Rattle.std.proofs.Common.{◌≡◌, ℕ, zero, suc, ◌<◌, List, [], ◌∷◌, get_or, length, sym, ap, ◌∙◌, arith}
use mathlib.Core.Option.{some, some-injective}
use lib.ListN.{get_elem?}
use Rattle.nr_core.proofs.ListPlaces.{inside}
use Rattle.nr_core.proofs.Sums.{got_at, only-same}
use Rattle.nr_core.specs.Roles.{retirements}
use Rattle.nr_core.specs.Sums.{only}
use Rattle.nr_core.specs.SlotLists.{SlotLists}
use Rattle.nr_core.specs.States.{no_retired}
use Rattle.nr_core.specs.declared.places.Retired.{Retired}

pub at_get : (l : List Retired) (place : ℕ) → place < length l → get_elem? l place ≡ some (get_or l place no_retired)
at_get l place low = got_at l place no_retired low

-- an entry that stands at a place of the list is the one there
pub there_is : (retired : List Retired) (place : ℕ) (entry : Retired) → get_elem? retired place ≡ some entry
    → entry ≡ get_or retired place no_retired
there_is retired place entry here =
    some-injective entry (get_or retired place no_retired)
    (sym here ∙ at_get retired place (inside retired place entry here))

pub record StandsAt (retired : List Retired) (place : ℕ) (entry : Retired) : Type 0 where
  pub is : get_elem? retired place ≡ some entry

-- what a search finds at a place of the list, which it leaves as it was
pub stands_at : {lists before : SlotLists} {place end : ℕ} {entry : Retired} → lists ≡ before
    → entry ≡ get_or lists.retired place no_retired → place < end → end ≡ length before.retired
    → StandsAt before.retired place entry
stands_at {lists = lists} {before = before} {place = place} same is low end_is = record {
  is = at_get before.retired place (omega arith)
      ∙ ap some (ap (λ (s : SlotLists). get_or s.retired place no_retired) (sym same) ∙ sym is);
}

-- what is in the list is retired
pub is_retired : (retired : List Retired) (at : ℕ) (entry : Retired) → get_elem? retired at ≡ some entry
    → 0 < retirements entry.slot retired
is_retired [] at entry there = absurd (cc)
is_retired (x ∷ retired) zero entry there =
    let one : only entry.slot x.slot ≡ 1
    = ap (λ (e : Retired). only entry.slot e.slot) (some-injective x entry there) ∙ only-same entry.slot in
    omega arith
is_retired (x ∷ retired) (suc at) entry there = omega (arith, is_retired retired at entry there)
