-- Sums over lists that change at one place, and over the numbers below one.
use Rattle.std.proofs.Common.{List, [], ap, arith, cond, drop, eq-eqb, get_or, inl, inr, length, ne_eqb, refl, set, suc}
use Rattle.std.proofs.Common.{sym, take, zero, ℕ, ⊎_elim, ◌++◌, ◌+◌, ◌<◌, ◌∙◌, ◌∷◌, ◌≡◌, ◌≢◌, ◌≤◌, ◌⊎◌}
use lib.ListN.{get_elem?}
use mathlib.Core.Logic.{dite}
use mathlib.Core.Option.{some, some-injective, some-ne-none}
use native.Mathlib.Decide.{ℕ_discrete}
use Rattle.nr_core.specs.Sums.{below, only, total}

module _ {A : Type 0} where
  pub here_after : (l : List A) (i : ℕ) (a b : A) → get_elem? l i ≡ some a → get_elem? (set l i b) i ≡ some b
  here_after [] i a b e = absurd (some-ne-none a (sym e))
  here_after (x ∷ xs) zero a b e = refl
  here_after (x ∷ xs) (suc i) a b e = here_after xs i a b e

  pub set_again : (l : List A) (i : ℕ) (a : A) → get_elem? l i ≡ some a → set l i a ≡ l
  set_again [] i a e = refl
  set_again (x ∷ xs) zero a e = λ k. sym (some-injective x a e) k ∷ xs
  set_again (x ∷ xs) (suc i) a e = λ k. x ∷ set_again xs i a e k

  pub at_set : (l : List A) (i j : ℕ) (a b : A) → get_elem? (set l i a) j ≡ some b
      → ((j ≡ i) × (a ≡ b)) ⊎ ((j ≢ i) × (get_elem? l j ≡ some b))
  at_set [] i j a b e = absurd (some-ne-none b (sym e))
  at_set (x ∷ xs) zero zero a b e = inl (refl, some-injective a b e)
  at_set (x ∷ xs) zero (suc j) a b e = inr ((λ h. omega arith), e)
  at_set (x ∷ xs) (suc i) zero a b e = inr ((λ h. omega arith), e)
  at_set (x ∷ xs) (suc i) (suc j) a b e =
      ⊎_elim (λ t. inl (ap suc t.0, t.1)) (λ t. let n = t.0 in inr ((λ h. n (omega arith)), t.1)) (at_set xs i j a b e)

  module _ (g : A → ℕ) where
    pub total-append : (l m : List A) → total g (l ++ m) ≡ total g l + total g m
    total-append [] m = omega arith
    total-append (x ∷ xs) m = omega (arith, total-append xs m)

    pub total-set : (l : List A) (j : ℕ) (v w : A) → get_elem? l j ≡ some v
        → total g (set l j w) + g v ≡ total g l + g w
    total-set [] j v w e = absurd (some-ne-none v (sym e))
    total-set (x ∷ xs) zero v w e = omega (arith, ap g (some-injective x v e))
    total-set (x ∷ xs) (suc j) v w e = omega (arith, total-set xs j v w e)

    pub term_le : (l : List A) (j : ℕ) (v : A) → get_elem? l j ≡ some v → g v ≤ total g l
    term_le [] j v e = absurd (some-ne-none v (sym e))
    term_le (x ∷ xs) zero v e = omega (arith, ap g (some-injective x v e))
    term_le (x ∷ xs) (suc j) v e = omega (arith, term_le xs j v e)

    pub terms_le : (l : List A) (j k : ℕ) (v u : A) → k ≢ j → get_elem? l j ≡ some v → get_elem? l k ≡ some u
        → g v + g u ≤ total g l
    terms_le [] j k v u n e d = absurd (some-ne-none v (sym e))
    terms_le (x ∷ xs) zero zero v u n e d = absurd (n refl)
    terms_le (x ∷ xs) zero (suc k) v u n e d = omega (arith, ap g (some-injective x v e), term_le xs k u d)
    terms_le (x ∷ xs) (suc j) zero v u n e d = omega (arith, ap g (some-injective x u d), term_le xs j v e)
    terms_le (x ∷ xs) (suc j) (suc k) v u n e d = omega (arith, terms_le xs j k v u (λ h. n (ap suc h)) e d)

  -- a sum whose terms are at most another's
  pub total-le : (f g : A → ℕ) → ((a : A) → f a ≤ g a) → (l : List A) → total f l ≤ total g l
  total-le f g h [] = omega arith
  total-le f g h (x ∷ xs) = omega (arith, h x, total-le f g h xs)

pub only-same : (k : ℕ) → only k k ≡ 1
only-same k = ap (λ b. cond b 1 0) (eq-eqb k k refl)

pub only-other : (k x : ℕ) → x ≢ k → only k x ≡ 0
only-other k x n = ap (λ b. cond b 1 0) (ne_eqb x k n)

pub only-le : (k x : ℕ) → only k x ≤ 1
only-le k x =
    dite (ℕ_discrete x k) (λ e. omega (arith, ap (only k) e, only-same k)) (λ ne. omega (arith, only-other k x ne))

-- a slot that is counted is that slot
pub only-is : (k x : ℕ) → 0 < only k x → x ≡ k
only-is k x h = dite (ℕ_discrete x k) (λ e. e) (λ ne. absurd (omega (arith, only-other k x ne)))

pub only-suc : (s t : ℕ) → only (suc s) (suc t) ≡ only s t
only-suc s t = search (arith, eq-eqb, only-other)

pub only-zero : (s : ℕ) → only (suc s) 0 ≡ 0
only-zero s = only-other (suc s) 0 (λ e. omega arith)

pub below-same : (f g : ℕ → ℕ) (n : ℕ) → ((k : ℕ) → k < n → f k ≡ g k) → below f n ≡ below g n
below-same f g zero h = refl
below-same f g (suc n) h = omega (arith, below-same f g n (λ k l. h k (omega arith)), h n (omega arith))

pub below-term : (f : ℕ → ℕ) (n k : ℕ) → k < n → f k ≤ below f n
below-term f zero k h = absurd (omega arith)
below-term f (suc n) k h =
    dite (ℕ_discrete k n) (λ e. omega (arith, ap f e)) (λ ne. omega (arith, below-term f n k (omega arith)))

pub below-terms : (f : ℕ → ℕ) (n j k : ℕ) → j < n → k < n → j ≢ k → f j + f k ≤ below f n
below-terms f zero j k h l ne = absurd (omega arith)
below-terms f (suc n) j k h l ne = dite (ℕ_discrete k n) (λ e. omega (arith, ap f e, below-term f n j (omega arith)))
    (λ nk. dite (ℕ_discrete j n) (λ e. omega (arith, ap f e, below-term f n k (omega arith)))
    (λ nj. omega (arith, below-terms f n j k (omega arith) (omega arith) ne)))

pub below-change : (f g : ℕ → ℕ) (n i : ℕ) → i < n → ((k : ℕ) → k ≢ i → f k ≡ g k) → below f n + g i ≡ below g n + f i
below-change f g zero i h same = absurd (omega arith)
below-change f g (suc n) i h same = dite (ℕ_discrete i n)
    (λ e. omega (arith, ap f e, ap g e, below-same f g n (λ k l. same k (λ z. absurd (omega arith)))))
    (λ ne. omega (arith, below-change f g n i (omega arith) same, same n (λ z. ne (sym z))))

module _ {A : Type 0} where
  -- a list without the element at p
  pub total-remove : (g : A → ℕ) (l : List A) (p : ℕ) (a : A) → get_elem? l p ≡ some a
      → total g (take p l ++ drop (suc p) l) + g a ≡ total g l
  total-remove g [] p a e = absurd (some-ne-none a (sym e))
  total-remove g (x ∷ xs) zero a e = omega (arith, ap g (some-injective x a e))
  total-remove g (x ∷ xs) (suc p) a e = omega (arith, total-remove g xs p a e)

  pub total-drop : (g : A → ℕ) (l : List A) (p : ℕ) → total g (drop p l) ≤ total g l
  total-drop g l zero = omega arith
  total-drop g [] (suc p) = omega arith
  total-drop g (x ∷ xs) (suc p) = omega (arith, total-drop g xs p)

  pub at_remove : (l : List A) (p i : ℕ) (a : A) → get_elem? (take p l ++ drop (suc p) l) i ≡ some a
      → (j : ℕ) × (get_elem? l j ≡ some a)
  at_remove [] zero i a e = absurd (some-ne-none a (sym e))
  at_remove [] (suc p) i a e = absurd (some-ne-none a (sym e))
  at_remove (x ∷ xs) zero i a e = (suc i, e)
  at_remove (x ∷ xs) (suc p) zero a e = (zero, e)
  at_remove (x ∷ xs) (suc p) (suc i) a e = let t = at_remove xs p i a e in (suc t.0, t.1)

  pub at_snoc : (l : List A) (a b : A) (j : ℕ) → get_elem? (l ++ a ∷ []) j ≡ some b → (get_elem? l j ≡ some b) ⊎ (a ≡ b)
  at_snoc [] a b zero e = inr (some-injective a b e)
  at_snoc [] a b (suc j) e = absurd (some-ne-none b (sym e))
  at_snoc (x ∷ xs) a b zero e = inl e
  at_snoc (x ∷ xs) a b (suc j) e = at_snoc xs a b j e

  -- a sum that is not 0 has a term that is not
  pub some_term : (g : A → ℕ) (l : List A) → 0 < total g l → (j : ℕ) × (a : A) × (get_elem? l j ≡ some a) × (0 < g a)
  some_term g [] h = absurd (omega arith)
  some_term g (x ∷ xs) h =
      dite (ℕ_discrete (g x) 0) (λ z. let t = some_term g xs (omega arith) in (suc t.0, t.1, t.2, t.3))
      (λ nz. (zero, x, refl, omega arith))

  -- an element within a list is found there
  pub got_at : (l : List A) (i : ℕ) (z : A) → i < length l → get_elem? l i ≡ some (get_or l i z)
  got_at [] i z low = absurd (omega arith)
  got_at (x ∷ xs) zero z low = refl
  got_at (x ∷ xs) (suc i) z low = got_at xs i z (omega arith)

module _ {A : Type 0} where
  pub total-zero : (l : List A) → total (λ (_ : A). 0) l ≡ 0
  total-zero [] = refl
  total-zero (x ∷ xs) = omega (arith, total-zero xs)

  pub exchanged : (f : ℕ → A → ℕ) (l : List A) (n : ℕ)
      → below (λ c. total (f c) l) n ≡ total (λ x. below (λ c. f c x) n) l
  exchanged f l zero = sym (total-zero l)
  exchanged f l (suc n) = omega (arith, exchanged f l n, split l)
    where
      split : (l : List A)
          → total (λ x. below (λ c. f c x) n + f n x) l ≡ total (λ x. below (λ c. f c x) n) l + total (f n) l
      split [] = refl
      split (x ∷ xs) = omega (arith, split xs)

pub below-only : (x n : ℕ) → (x < n → below (λ c. only c x) n ≡ 1) × (n ≤ x → below (λ c. only c x) n ≡ 0)
below-only x zero = ((λ h. absurd (omega arith)), λ _. refl)
below-only x (suc n) = search (arith, below-only x n, only-same, only-other)

pub below-first : (f : ℕ → ℕ) (n : ℕ) → below f (suc n) ≡ f 0 + below (λ k. f (suc k)) n
below-first f zero = omega arith
below-first f (suc n) = omega (arith, below-first f n)

pub below-zero : (n : ℕ) → below (λ _. 0) n ≡ 0
below-zero zero = refl
below-zero (suc n) = omega (arith, below-zero n)

pub below-sum : (f g : ℕ → ℕ) (n : ℕ) → below (λ k. f k + g k) n ≡ below f n + below g n
below-sum f g zero = refl
below-sum f g (suc n) = omega (arith, below-sum f g n)

pub below-exchanged : (f : ℕ → ℕ → ℕ) (n m : ℕ) → below (λ s. below (f s) m) n ≡ below (λ k. below (λ s. f s k) n) m
below-exchanged f n zero = below-zero n
below-exchanged f n (suc m) = omega (arith, below-sum (λ s. below (f s) m) (λ s. f s m) n, below-exchanged f n m)

pub below-one : (n : ℕ) → below (λ _. 1) n ≡ n
below-one zero = refl
below-one (suc n) = omega (arith, below-one n)

pub below-few : (f : ℕ → ℕ) (n : ℕ) → ((s : ℕ) → s < n → f s ≤ 1) → below f n ≤ n
below-few f zero few = omega arith
below-few f (suc n) few = omega (arith, below-few f n (λ s l. few s (omega arith)), few n (omega arith))

pub below-fewer : (f : ℕ → ℕ) (n t : ℕ) → ((s : ℕ) → s < n → f s ≤ 1) → t < n → f t ≡ 0 → below f n < n
below-fewer f zero t few near none = absurd (omega arith)
below-fewer f (suc n) t few near none = dite (ℕ_discrete t n)
    (λ e. let last : f n ≡ 0 = ap f (sym e) ∙ none in omega (arith, below-few f n (λ s l. few s (omega arith))))
    (λ ne. omega (arith, below-fewer f n t (λ s l. few s (omega arith)) (omega arith) none, few n (omega arith)))
