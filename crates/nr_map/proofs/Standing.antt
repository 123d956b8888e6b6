-- How often a put number stands in slots, counted slot by slot.
use Rattle.std.proofs.Common.{Bool, List, [], ap, arith, cond, false, get_or, length, refl, suc, take, true, zero, ℕ}
use Rattle.std.proofs.Common.{◌++◌, ◌+◌, ◌∷◌, ◌≡◌, ◌≤◌, nat_eq}
use Rattle.nr_core.proofs.Sums.{below-first}
use Rattle.nr_core.specs.Sums.{below, only}
use Rattle.nr_model.proofs.HistoryLemmas.{count_by-cons}
use Rattle.nr_model.specs.Strays.{count_of_put}
use Rattle.nr_map.specs.Reclaims.{unreaped}

pub count_cons : (number x : ℕ) (l : List ℕ) → count_of_put (x ∷ l) number ≡ only number x + count_of_put l number
count_cons number x l = count_by-cons (λ other. nat_eq other number) x l

pub count_both : (number : ℕ) (l m : List ℕ)
    → count_of_put (l ++ m) number ≡ count_of_put l number + count_of_put m number
count_both number [] m = omega arith
count_both number (x ∷ l) m = omega (arith, count_cons number x (l ++ m), count_cons number x l, count_both number l m)

-- 1 where the set of that number stands in the slot
abbrev pub stands_at : ℕ → List ℕ → List Bool → ℕ → ℕ
stands_at number puts flags slot = cond (get_or flags slot false) 0 (only number (get_or puts slot 0))

pub stands_there : (number : ℕ) (puts : List ℕ) (flags : List Bool) (slot : ℕ) → get_or flags slot false ≡ false
    → stands_at number puts flags slot ≡ only number (get_or puts slot 0)
stands_there number puts flags slot kept = ap (λ (b : Bool). cond {A = ℕ} b 0 (only number (get_or puts slot 0))) kept

pub stands_nowhere : (number : ℕ) (puts : List ℕ) (flags : List Bool) (slot : ℕ) → get_or flags slot false ≡ true
    → stands_at number puts flags slot ≡ 0
stands_nowhere number puts flags slot gone = ap (λ (b : Bool). cond {A = ℕ} b 0 (only number (get_or puts slot 0))) gone

counted_first : (number y : ℕ) (flag : Bool) (l : List ℕ) (all others : ℕ)
    → all ≡ cond flag 0 (only number y) + others → count_of_put l number ≡ others
    → count_of_put (cond flag l (y ∷ l)) number ≡ all
counted_first number y true l all others first rest = omega arith
counted_first number y false l all others first rest = omega (arith, count_cons number y l)

pub count_standing : (number : ℕ) (puts : List ℕ) (flags : List Bool) (taken : ℕ) → taken ≤ length puts
    → count_of_put (unreaped (take taken puts) flags) number ≡ below (stands_at number puts flags) taken
count_standing number [] flags zero fits = refl
count_standing number (y ∷ l) flags zero fits = refl
count_standing number [] flags (suc n) fits = absurd (omega arith)
count_standing number (y ∷ l) [] (suc n) fits =
    omega (
      arith,
      below-first (stands_at number (y ∷ l) []) n,
      count_cons number y (unreaped (take n l) []),
      count_standing number l [] n (omega arith),
    )
count_standing number (y ∷ l) (flag ∷ flags) (suc n) fits =
    let rest = count_standing number l flags n (omega arith) in
    let first = below-first (stands_at number (y ∷ l) (flag ∷ flags)) n in
    counted_first number y flag (unreaped (take n l) flags) _ _ first rest

-- what a slot had, if it was taken
pub count_had : (number x : ℕ) (taken reaped : Bool)
    → count_of_put (cond taken (cond reaped [] (x ∷ [])) []) number ≡ cond taken (cond reaped 0 (only number x)) 0
count_had number x taken reaped = grind (arith, count_cons)
