-- What is said of a list is true of its copy.
use Rattle.std.proofs.Common.{◌≡◌, List, Ok, Err, Result, refl, sym, subst, ◌∙◌}
use Rattle.std.specs.List.{AllZip}
use Rattle.std.specs.Result.{IfOk, MatchResult}
use Rattle.std.proofs.lemmas.List.Folds.{map_fixed}
use Rattle.std.proofs.lemmas.Slice.Zip.{AllZip-map}

pub copies : {X Y E : Type 0} (items : Y → List X) (P : List X → Type 0) (Q : Y → Type 0) (N : E → Type 0) (xs : List X)
    (copy : Result Y E) → P xs → MatchResult copy (λ w. AllZip (λ x y. y ≡ x) xs (items w) × Q w) N
    → IfOk copy (λ w. P (items w))
copies items P Q N xs (Ok w) given same =
    subst P (sym (AllZip-map (λ x. x) xs (items w) same.0 ∙ map_fixed (λ x. x) xs (λ i d within. refl))) given
copies items P Q N xs (Err e) given same = search
