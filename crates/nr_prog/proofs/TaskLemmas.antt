-- What words ask for, by how many they are.
use Rattle.std.proofs.Common.{ℕ, ◌≡◌, ◌≢◌, List, [], ◌∷◌, length, map, take, get_or, refl, arith}
use Rattle.nr_prog.specs.declared.arguments.TheConstants.{ROOM}
use Rattle.nr_prog.specs.declared.task.Misuse.TheVariants as misuse
use Rattle.nr_prog.specs.declared.task.Task.TheVariants.{Script, Explain}
use Rattle.nr_prog.specs.Tasks.{task}

pub none_asks : {A : Type 0} (spell : A → List ℕ) (list : List A) → length list ≡ 0 → Script ≡ task (map spell list)
none_asks spell [] none = refl
none_asks spell (first ∷ more) none = absurd (omega (arith, none))

-- the only element
pub only_one : {A : Type 0} (list : List A) (only : A) → length list ≡ 1 → only ≡ get_or list 0 only → list ≡ only ∷ []
only_one [] only one is = absurd (omega (arith, one))
only_one (first ∷ []) only one is = rw is refl
only_one (first ∷ second ∷ more) only one is = absurd (omega (arith, one))

-- the five elements
pub only_five : {A : Type 0} (list : List A) (a b c d e : A) → length list ≡ 5
    → a ≡ get_or list 0 a → b ≡ get_or list 1 b → c ≡ get_or list 2 c → d ≡ get_or list 3 d → e ≡ get_or list 4 e
    → list ≡ a ∷ b ∷ c ∷ d ∷ e ∷ []
only_five [] a b c d e five is_a is_b is_c is_d is_e = absurd (omega (arith, five))
only_five (v ∷ []) a b c d e five is_a is_b is_c is_d is_e = absurd (omega (arith, five))
only_five (v ∷ w ∷ []) a b c d e five is_a is_b is_c is_d is_e = absurd (omega (arith, five))
only_five (v ∷ w ∷ x ∷ []) a b c d e five is_a is_b is_c is_d is_e = absurd (omega (arith, five))
only_five (v ∷ w ∷ x ∷ y ∷ []) a b c d e five is_a is_b is_c is_d is_e = absurd (omega (arith, five))
only_five (v ∷ w ∷ x ∷ y ∷ z ∷ []) a b c d e five is_a is_b is_c is_d is_e = rw (is_a, is_b, is_c, is_d, is_e) refl
only_five (v ∷ w ∷ x ∷ y ∷ z ∷ next ∷ more) a b c d e five is_a is_b is_c is_d is_e = absurd (omega (arith, five))

pub others_explain : {A : Type 0} (spell : A → List ℕ) (list : List A) → length list ≢ 0 → length list ≢ 1
    → length list ≢ 5 → Explain misuse.Words ≡ task (map spell list)
others_explain spell [] some more_than_one not_five = absurd (some refl)
others_explain spell (v ∷ []) some more_than_one not_five = absurd (more_than_one refl)
others_explain spell (v ∷ w ∷ []) some more_than_one not_five = refl
others_explain spell (v ∷ w ∷ x ∷ []) some more_than_one not_five = refl
others_explain spell (v ∷ w ∷ x ∷ y ∷ []) some more_than_one not_five = refl
others_explain spell (v ∷ w ∷ x ∷ y ∷ z ∷ []) some more_than_one not_five = absurd (not_five refl)
others_explain spell (v ∷ w ∷ x ∷ y ∷ z ∷ next ∷ more) some more_than_one not_five = refl

-- of more words than any command has, what they ask for is told by the first of them
pub first_tell : {A : Type 0} (spell : A → List ℕ) (list : List A)
    → task (map spell (take ROOM list)) ≡ task (map spell list)
first_tell spell [] = refl
first_tell spell (v ∷ []) = refl
first_tell spell (v ∷ w ∷ []) = refl
first_tell spell (v ∷ w ∷ x ∷ []) = refl
first_tell spell (v ∷ w ∷ x ∷ y ∷ []) = refl
first_tell spell (v ∷ w ∷ x ∷ y ∷ z ∷ []) = refl
first_tell spell (v ∷ w ∷ x ∷ y ∷ z ∷ next ∷ more) = refl
