-- Each step on the word of a map's closing keeps what it says.
use Rattle.std.proofs.Common.{Bool, MatchBool, [], ap, arith, length-set, min, nat_eq, refl, set, slice_index, subst}
use Rattle.std.proofs.Common.{true, ℕ, ⊎_elim, ◌+◌, ◌∙◌, ◌∷◌, ◌≡◌, get_or-set_same}
use Rattle.std.specs.Bool.{⊤}
use mathlib.Core.Option.{none, some}
use lib.ListN.{get_elem?}
use Rattle.atomic_table.specs.Table.{Allows, Enters, Me, State, keeps, step, stepped}
use Rattle.nr_core.proofs.Sums.{at_set, at_snoc, total-append, total-set}
use Rattle.nr_c.specs.Closings.{SaysClosed, Visit, has_closed, has_entered, has_looked, new_visit}

abbrev pub S : Type 0
S = State (Unit {0}) Visit

abbrev pub closes_of : Visit → ℕ
closes_of visit = visit.closes

module _ (id : ℕ) (me : Me (Unit {0}) Visit) (state : S) (are : SaysClosed state)
    (there : get_elem? state.views id ≡ some me.0) (n closings : ℕ) (visit : Visit) where
  -- the word becomes n, and a handle closes the writer that often
  still_says : visit.closes ≡ me.0.closes + closings → n ≡ min 1 (slice_index state.words 0 + closings)
      → (visit.told ≡ true → n ≡ 1) → SaysClosed (stepped state 0 n id me.1 visit keeps)
  still_says more is told =
      let here : slice_index (set state.words 0 n) 0 ≡ n
      = get_or-set_same state.words 0 n 0 (omega (arith, are.size)) in
      let sum = total-set closes_of state.views id me.0 visit there in
      let says = are.says in
      record {
        size = length-set state.words 0 n ∙ are.size;
        says = omega (arith, here, sum, says, more, is);
        told = λ other known at was. ⊎_elim
            (λ mine. let one = told (ap (λ (v : Visit). v.told) mine.1 ∙ was) in omega (arith, here, one))
            (λ theirs. let one = are.told other known theirs.1 was in omega (arith, here, one, is))
            (at_set state.views id other visit known at);
      }

module _ (id : ℕ) (me : Me (Unit {0}) Visit) (slots : ℕ) where
  -- a look
  pub looks : Allows SaysClosed slots id me 0 (λ n. n) (has_looked (step slots 0 0 0 none) me)
  looks state are _ there _ =
      let n : ℕ = slice_index state.words 0 in
      let says = are.says in
      let visit : Visit
      = record { looks = me.0.looks + 1; told = nat_eq n 1; closes = me.0.closes } in (
        visit,
        keeps,
        tt,
        still_says id me state are there n 0 visit (omega arith) (omega (arith, says)) (λ is. grind (arith, is)),
        (refl, refl, refl, λ was. ap (λ (k : ℕ). nat_eq k 1) (are.told id me.0 there was)),
      )

  -- the closing
  pub closes : Allows SaysClosed slots id me 0 (λ _. 1) (λ _. has_closed (step slots 0 1 0 none) me 1)
  closes state are _ there _ =
      let visit : Visit
      = record { looks = me.0.looks; told = me.0.told; closes = me.0.closes + 1 } in (
        visit,
        keeps,
        tt,
        still_says id me state are there 1 1 visit refl (omega arith) (λ _. refl),
        (refl, refl, refl),
      )

-- a new handle
pub enters : (slots : ℕ)
    → Enters SaysClosed slots 0 (λ n visit. has_entered (step slots 0 0 0 none) (new_visit, []) n (visit, []))
enters slots state are _ _ = (
  new_visit,
  record {
    size = are.size;
    says = let sum = total-append closes_of state.views (new_visit ∷ []) in let says = are.says in
        omega (arith, sum, says);
    told = λ other known at was. ⊎_elim (λ theirs. are.told other known theirs was)
        (λ mine. absurd (subst (λ (b : Bool). MatchBool b ⊥ ⊤) (ap (λ (v : Visit). v.told) mine ∙ was) tt))
        (at_snoc state.views new_visit known other at);
  },
  refl,
)
