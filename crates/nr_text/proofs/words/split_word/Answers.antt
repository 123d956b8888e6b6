use Rattle.std.proofs.Common.{◌≡◌, ℕ, ◌+◌, ◌-◌, ◌≤◌, Bool, List, [], ◌∷◌, length, take, drop, Some, None, refl, arith}
use Rattle.std.proofs.lemmas.Bool.Decides.{nat_tests}
use Rattle.std.proofs.lemmas.List.Splits.{slice_split_first}
use Rattle.std.proofs.lemmas.List.{take_rest}
use Rattle.std.specs.Prelude.{position, ◌==◌}
use Rattle.std.specs.List.{slice_split, position_or_len}
use Rattle.nr_text.proofs.words.split_word.Goals as goal

-- a list is cut at the first place that passes a test, or not at all
module _ (p : ℕ → Bool) where
  split_none : (xs : List ℕ) → length xs ≤ position_or_len p xs → slice_split p xs ≡ xs ∷ []
  split_none [] none = refl
  split_none (x ∷ xs) none = grind (arith, split_none xs)

  cut_none : (xs : List ℕ) → None ≡ position p xs → slice_split p xs ≡ xs ∷ []
  cut_none xs e = grind (arith, nat_tests, split_none)

  cut_some : (xs : List ℕ) (i : ℕ) → Some i ≡ position p xs
      → slice_split p xs ≡ take i xs ∷ slice_split p (take (length xs - (i + 1)) (drop (i + 1) xs))
  cut_some xs i e = rw take_rest (grind (arith, nat_tests, slice_split_first p xs 0))

pub returns-in-None : goal.returns-in-None
returns-in-None c = cut_none (λ b. b == 32) c.args.line.now c.in-None.ensures

pub returns-in-Some : goal.returns-in-Some
returns-in-Some c = cut_some (λ b. b == 32) c.args.line.now c.in-Some.i c.in-Some.ensures
