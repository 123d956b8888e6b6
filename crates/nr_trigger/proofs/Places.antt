-- Where a pass stands among the passes, after one was changed or came.
use Rattle.std.proofs.Common.{◌≡◌, ◌≢◌, ℕ, zero, suc, ◌<◌, List, [], ◌∷◌, ◌++◌, length, set, sym, refl, ap, subst}
use Rattle.std.proofs.Common.{arith, ◌⊎◌, inl, inr, ⊎_elim}
use mathlib.Core.Option.{some, some-injective, some-ne-none}
use lib.ListN.{get_elem?}
use Rattle.crossbeam_queue.proofs.Lists.{at_set}

pub place-is-inside : {A : Type 0} (l : List A) (place : ℕ) (a : A) → get_elem? l place ≡ some a → place < length l
place-is-inside [] place a there = absurd (some-ne-none a (sym there))
place-is-inside (x ∷ l) zero a there = omega arith
place-is-inside (x ∷ l) (suc place) a there = let inside = place-is-inside l place a there in omega arith

-- an element of a longer list is one of the shorter list, or the last
pub inside-or-last : {A : Type 0} (l : List A) (last a : A) (place : ℕ) → get_elem? (l ++ last ∷ []) place ≡ some a
    → (get_elem? l place ≡ some a) ⊎ ((place ≡ length l) × (last ≡ a))
inside-or-last [] last a zero there = inr (refl, some-injective last a there)
inside-or-last [] last a (suc place) there = absurd (some-ne-none a (sym there))
inside-or-last (x ∷ l) last a zero there = inl there
inside-or-last (x ∷ l) last a (suc place) there =
    elim (inside-or-last l last a place there) [ inl h ↦ inl h | inr h ↦ inr (ap suc h.0, h.1) ]

-- what holds of the changed element, and of each other one, holds of each
pub each-after-change : {A : Type 0} (F : ℕ → A → Type 0) (l : List A) (at : ℕ) (new : A) → F at new
    → ((place : ℕ) (a : A) → place ≢ at → get_elem? l place ≡ some a → F place a) → (place : ℕ) (a : A)
    → get_elem? (set l at new) place ≡ some a → F place a
each-after-change {A} F l at new changed others place a there =
    ⊎_elim (λ (h : (place ≡ at) × (new ≡ a)). subst (λ (at : ℕ × A). F at.0 at.1) (λ i. (sym h.0 i, h.1 i)) changed)
    (λ (h : (place ≢ at) × (get_elem? l place ≡ some a)). others place a h.0 h.1) (at_set l at place new a there)

pub some-at : {A : Type 0} (l : List A) (place : ℕ) → place < length l → (a : A) × (get_elem? l place ≡ some a)
some-at [] place inside = absurd (omega (arith, inside))
some-at (x ∷ l) zero inside = (x, refl)
some-at (x ∷ l) (suc place) inside = some-at l place (omega (arith, inside))
