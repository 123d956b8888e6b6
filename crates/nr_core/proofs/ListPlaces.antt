-- Places in lists that are mapped, joined or changed at one place.
use Rattle.std.proofs.Common.{List, [], ap, arith, inl, inr, length, map, refl, set, suc, sym, zero, ℕ, ⊎_elim, ◌++◌}
use Rattle.std.proofs.Common.{◌<◌, ◌∷◌, ◌≡◌, ◌≢◌, ◌⊎◌}
use lib.ListN.{get_elem?}
use mathlib.Core.Option.{some, some-injective, some-ne-none}
use Rattle.std.specs.Prelude.{Some}

module _ {A B : Type 0} where
  pub at_maps : (f : A → B) (l : List A) (j : ℕ) (a : A) → get_elem? l j ≡ some a → get_elem? (map f l) j ≡ some (f a)
  at_maps f [] j a e = absurd (some-ne-none a (sym e))
  at_maps f (x ∷ xs) zero a e = ap (λ (y : A). some (f y)) (some-injective x a e)
  at_maps f (x ∷ xs) (suc j) a e = at_maps f xs j a e

  pub at_unmap : (f : A → B) (l : List A) (j : ℕ) (b : B) → get_elem? (map f l) j ≡ some b
      → (a : A) × (get_elem? l j ≡ some a) × (f a ≡ b)
  at_unmap f [] j b e = absurd (some-ne-none b (sym e))
  at_unmap f (x ∷ xs) zero b e = (x, refl, some-injective (f x) b e)
  at_unmap f (x ∷ xs) (suc j) b e = at_unmap f xs j b e

module _ {A : Type 0} where
  pub set_other : (l : List A) (i j : ℕ) (a b : A) → j ≢ i → get_elem? l j ≡ some b → get_elem? (set l i a) j ≡ some b
  set_other [] i j a b ne e = e
  set_other (x ∷ xs) zero zero a b ne e = absurd (ne refl)
  set_other (x ∷ xs) zero (suc j) a b ne e = e
  set_other (x ∷ xs) (suc i) zero a b ne e = e
  set_other (x ∷ xs) (suc i) (suc j) a b ne e = set_other xs i j a b (λ h. ne (ap suc h)) e

  pub at_left : (l m : List A) (j : ℕ) (a : A) → get_elem? l j ≡ some a → get_elem? (l ++ m) j ≡ some a
  at_left [] m j a e = absurd (some-ne-none a (sym e))
  at_left (x ∷ xs) m zero a e = e
  at_left (x ∷ xs) m (suc j) a e = at_left xs m j a e

  pub inside : (l : List A) (i : ℕ) (a : A) → get_elem? l i ≡ some a → i < length l
  inside [] i a e = absurd (some-ne-none a (sym e))
  inside (x ∷ xs) zero a e = omega arith
  inside (x ∷ xs) (suc i) a e = let t = inside xs i a e in omega arith

  pub before : (l : List A) (i : ℕ) → i < length l → (a : A) × (get_elem? l i ≡ some a)
  before [] i h = absurd (omega arith)
  before (x ∷ xs) zero h = (x, refl)
  before (x ∷ xs) (suc i) h = before xs i (omega arith)

  pub at_last : (l : List A) (a b : A) (j : ℕ) → get_elem? (l ++ a ∷ []) j ≡ some b
      → (get_elem? l j ≡ some b) ⊎ ((j ≡ length l) × (a ≡ b))
  at_last [] a b zero e = inr (refl, some-injective a b e)
  at_last [] a b (suc j) e = absurd (some-ne-none b (sym e))
  at_last (x ∷ xs) a b zero e = inl e
  at_last (x ∷ xs) a b (suc j) e =
      ⊎_elim inl (λ (t : (j ≡ length xs) × (a ≡ b)). inr (ap suc t.0, t.1)) (at_last xs a b j e)

  -- what is said of each place of no list
  pub no_places : (P : A → Type 0) (at : ℕ) (a : A) → get_elem? [] at ≡ some a → P a
  no_places P at a e = absurd (some-ne-none a (sym e))

pub some_is : (a b : ℕ) → Some a ≡ Some b → a ≡ b
some_is a b e = cc
