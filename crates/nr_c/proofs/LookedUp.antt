-- The first of what is left of many, whose numbers were copied.
use Rattle.std.proofs.Common.{◌≡◌, ◌==◌, ◌∙◌, ℕ, All, List, Option, ap, arith, length, map, min, subst, take}
use Rattle.std.proofs.lemmas.List.{take_min}
use Rattle.std.proofs.lemmas.List.Elements.{All-map, All-take}
use Rattle.nr_idmap.specs.declared.finds.NamedWay.{NamedWay}
use Rattle.nr_idmap.specs.IdHands.{IdHanded}
use Rattle.nr_idmap.specs.IdLoads.{LooksAhead}
use Rattle.nr_c.specs.IdMany.{LooksUpIds}

module _ {One : Type 0} (number : One → ℕ) (left : List One) (count : ℕ) {numbers : List ℕ}
    (copied : numbers ≡ map number (take count left)) where
  -- what holds of the numbers of all holds of those that were copied
  pub holds_of_copied : (P : ℕ → Type 0) → All (λ one. P (number one)) left → All P numbers
  holds_of_copied P all =
      rw copied (All-map P number (take count left) (All-take (λ one. P (number one)) count left all))

  -- look-ups of the first sixteen, where sixteen begin
  pub sixteen_looked_up : (rest : ℕ) (before ways : List (Option NamedWay)) (old new : IdHanded) → rest ≡ 0
      → count ≡ min (length left) 16 → LooksAhead numbers (take (length numbers) ways) old new
      → LooksUpIds (rest == 0) (map number (take 16 left)) (old, before) (new, ways)
  sixteen_looked_up rest before ways old new begins count_is looks =
      let turned : count ≡ min 16 (length left) = omega arith in
      let first = ap (λ (n : ℕ). take n left) turned ∙ take_min 16 left in
      rw begins
      (subst (λ (l : List ℕ). LooksAhead l (take (length l) ways) old new)
      (copied ∙ ap (λ (l : List One). map number l) first) looks)
