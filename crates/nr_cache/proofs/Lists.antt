-- Lists of which the first element that passes a test is taken out, or written over.
use Rattle.std.proofs.Common.{◌≡◌, ◌≢◌, ◌<◌, ℕ, zero, suc, ◌⊎◌, inl, inr, Bool, false, List, [], ◌∷◌, ◌++◌, None, arith}
use Rattle.std.proofs.Common.{length, get_or, set, take, drop, sym, ◌∙◌, subst}
use Rattle.std.specs.List.{Contains, position, remove}
use Rattle.std.proofs.lemmas.Bool.{cases_eq}
use Rattle.std.proofs.lemmas.Bool.Decides.{nat_tests}
use Rattle.std.proofs.lemmas.List.{get_or-set_other, length-set, take-append-drop}
use Rattle.std.proofs.lemmas.List.Elements.{Contains-append_cases, Contains-append_left, Contains-append_right}
use Rattle.std.proofs.lemmas.Grind.{get_or-set_at}

-- where none passes, each fails
pub none_passes : {X : Type 0} → (p : X → Bool) (xs : List X) (k : ℕ) (d : X) → position p xs ≡ None → k < length xs
    → p (get_or xs k d) ≡ false
none_passes p [] k d none within = absurd (omega arith)
none_passes p (x ∷ xs) zero d none within = grind (arith, nat_tests)
none_passes p (x ∷ xs) (suc k) d none within = grind (arith, nat_tests, none_passes p xs k d)

-- what is left was there
pub contains_removed : {X : Type 0} → (xs : List X) (i : ℕ) (x : X) → Contains (remove xs i) x → Contains xs x
contains_removed {X = X} xs i x h =
    let whole = λ (n : ℕ) (l : Contains (take n xs ++ drop n xs) x). subst (λ (l : List X). Contains l x)
    (take-append-drop n xs) l in
    elim (Contains-append_cases (take i xs) (drop (suc i) xs) x h) [
      | inl a ↦ whole i (Contains-append_left (take i xs) (drop i xs) x a)
      | inr b ↦ whole (suc i) (Contains-append_right (take (suc i) xs) (drop (suc i) xs) x b)
    ]

-- an element of a list after a write is what was written, or stands at another place
pub contains_written : {X : Type 0} → (xs : List X) (i : ℕ) (y x : X) → i < length xs → Contains (set xs i y) x
    → (x ≡ y) ⊎ ((k : ℕ) × (k ≢ i) × (k < length xs) × (get_or xs k x ≡ x))
contains_written xs i y x within h =
    let low : h.0 < length xs = let n = length-set xs i y in let k = h.1 in omega (arith, n, k) in
    elim (cases_eq h.0 i) [
      | inl same ↦ inl (sym h.2 ∙ get_or-set_at xs i h.0 y x same within)
      | inr other ↦ inr (h.0, other, low, sym (get_or-set_other xs i h.0 y x other) ∙ h.2)
    ]
