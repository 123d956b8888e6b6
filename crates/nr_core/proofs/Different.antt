-- Different numbers from 1 to n are at most n.
use Rattle.std.proofs.Common.{List, [], arith, length, refl, suc, zero, ℕ, ◌<◌, ◌∷◌, ◌≡◌, ◌≤◌}
use lib.ListN.{get_elem?}
use mathlib.Core.Option.{some}
use Rattle.nr_core.proofs.Sums.{below-few, below-only, below-same, exchanged, only-suc}
use Rattle.nr_core.specs.Sums.{below, only, total}

module _ {A : Type 0} (f : A → ℕ) where
  -- each number stands once among those up to n
  once_each : (l : List A) (n : ℕ) → ((i : ℕ) (x : A) → get_elem? l i ≡ some x → (0 < f x) × (f x ≤ n))
      → total (λ x. below (λ c. only (suc c) (f x)) n) l ≡ length l
  once_each [] n inside = refl
  once_each (x ∷ xs) n inside = let t = inside 0 x refl in let low = t.0 in let high = t.1 in
      omega (arith, one (f x) low high, once_each xs n (λ i y e. inside (suc i) y e))
    where
      one : (number : ℕ) → 0 < number → number ≤ n → below (λ c. only (suc c) number) n ≡ 1
      one zero low high = absurd (omega arith)
      one (suc m) low high =
          omega (
            arith,
            below-same (λ c. only (suc c) (suc m)) (λ c. only c m) n (λ c _. only-suc c m),
            (below-only m n).0 (omega arith),
          )

  pub few_of : (l : List A) (n : ℕ) → ((c : ℕ) → total (λ x. only c (f x)) l ≤ 1)
      → ((i : ℕ) (x : A) → get_elem? l i ≡ some x → (0 < f x) × (f x ≤ n)) → length l ≤ n
  few_of l n different inside =
      omega (
        arith,
        exchanged (λ c x. only (suc c) (f x)) l n,
        once_each l n inside,
        below-few (λ c. total (λ x. only (suc c) (f x)) l) n (λ c _. different (suc c)),
      )
