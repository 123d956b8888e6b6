-- What holds at each place of a list holds still where one element is another one, or stands more.
use Rattle.std.proofs.Common.{◌≡◌, ◌≢◌, ℕ, ⊎_elim, List, [], ◌∷◌, ◌++◌, set, subst, sym}
use mathlib.Core.Option.{some}
use lib.ListN.{get_elem?}
use Rattle.nr_core.proofs.Sums.{at_set, at_snoc}

module _ {A : Type 0} {P : ℕ → A → Type 0} (l : List A) where
  pub at_any : (i : ℕ) (next : A) → P i next → ((j : ℕ) (a : A) → j ≢ i → get_elem? l j ≡ some a → P j a)
      → (j : ℕ) (a : A) → get_elem? (set l i next) j ≡ some a → P j a
  at_any i next of_next others j a there =
      ⊎_elim
      (λ (t : (j ≡ i) × (next ≡ a)). subst (λ (p : ℕ × A). P p.0 p.1) (λ k. (sym t.0 k, t.1 k)) of_next)
      (λ (t : (j ≢ i) × (get_elem? l j ≡ some a)). others j a t.0 t.1) (at_set l i j next a there)

  pub at_more : (next : A) → ((j : ℕ) → P j next) → ((j : ℕ) (a : A) → get_elem? l j ≡ some a → P j a) → (j : ℕ) (a : A)
      → get_elem? (l ++ next ∷ []) j ≡ some a → P j a
  at_more next of_next others j a there =
      ⊎_elim (others j a) (λ (t : next ≡ a). subst (P j) t (of_next j)) (at_snoc l next a j there)
