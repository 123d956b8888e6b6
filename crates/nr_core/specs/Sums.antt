-- Sums: over a list, and over the numbers below one.
use Rattle.std.specs.Prelude.{ℕ, suc, zero, ◌+◌, ◌==◌, cond, List, [], ◌∷◌}

abbrev pub total : {A : Type 0} → (A → ℕ) → List A → ℕ
total f [] = 0
total f (x ∷ xs) = f x + total f xs

abbrev pub below : (ℕ → ℕ) → ℕ → ℕ
below f zero = 0
below f (suc n) = below f n + f n

-- 1 where the numbers are the same
abbrev pub only : ℕ → ℕ → ℕ
only s t = cond (t == s) 1 0
