-- A proof by the two cases of a test.
use Rattle.std.proofs.Common.{Bool, cond, false, refl, true, ◌≡◌}

pub by_cases : (P : Bool → Type 0) (b : Bool) → (b ≡ true → P true) → (b ≡ false → P false) → P b
by_cases P b t f =
    elim b as (λ v. (v ≡ true → P true) → (v ≡ false → P false) → P v) [ true ↦ λ t f. t refl | false ↦ λ t f. f refl ]
    t f

-- a proof of one statement by the two cases
pub either : {G : Type 0} (b : Bool) → (b ≡ true → G) → (b ≡ false → G) → G
either {G} b t f = by_cases (λ _. G) b t f

-- what a test chooses has what both sides have
pub on_test : {A : Type 0} (P : A → Type 0) (b : Bool) {this that : A} → (b ≡ true → P this) → (b ≡ false → P that)
    → P (cond b this that)
on_test P b {this} {that} t f = by_cases (λ v. P (cond v this that)) b t f
