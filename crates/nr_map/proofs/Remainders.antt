-- What comes out of a map that was taken apart: one after another the sets that stand in its slots and were not reaped.
use Rattle.std.proofs.Common.{List, ap, arith, false, get_or, refl, subst, suc, zero, ℕ, ◌+◌, ◌-◌, ◌<◌, ◌≡◌, ◌≤◌, All}
use Rattle.std.proofs.lemmas.List.Elements.{All-cons, All-nil}
use Rattle.nr_model.specs.Strays.{count_of_put}
use Rattle.nr_model.specs.declared.rows.Row.{Row}
use Rattle.nr_core.specs.Marks.{Marks, is_reaped}
use Rattle.nr_core.specs.Sums.{below}
use Rattle.nr_board.specs.Callers.{Caller}
use Rattle.nr_map.specs.Remains.{AllComeOut, AllReaped, Given, Left, NoMore, OneMore, RestComesOutOnce, given_at}
use Rattle.nr_map.specs.Remains.{numbers}
use Rattle.nr_map.proofs.Standing.{count_cons, count_standing, stands_at, stands_nowhere, stands_there}

-- that one stands in that slot
abbrev pub StandsIn : Caller → Given → Type 0
StandsIn writer one =
    (slot : ℕ) × (slot < writer.fresh) × (is_reaped writer.marks slot ≡ false) × (one ≡ given_at writer slot)

-- the slots before one add so many to the count of a put number
abbrev stand_below : ℕ → Marks → ℕ → ℕ
stand_below number marks slot = below (stands_at number marks.puts marks.reaped) slot

-- slots that were reaped add none
reaped_gap : (number : ℕ) (marks : Marks) (n from end : ℕ) → end ≡ from + n → AllReaped marks from end
    → stand_below number marks from ≡ stand_below number marks end
reaped_gap number marks zero from end is gone = ap (stand_below number marks) (omega arith)
reaped_gap number marks (suc n) from end is gone =
    omega (
      arith,
      reaped_gap number marks n from (from + n) refl (λ slot first low. gone slot first (omega arith)),
      stands_nowhere number marks.puts marks.reaped (from + n) (gone (from + n) (omega arith) (omega arith)),
      ap (stand_below number marks) (let last : suc (from + n) ≡ end = omega arith in last),
    )

module _ {Room : Type 0} (shows : Room → List Row → Type 0) where
  rest_numbers : {left : Left} {rest : List Given} → AllComeOut shows left rest → (number : ℕ)
      → left.next ≤ left.writer.fresh
      → count_of_put (numbers rest) number + stand_below number left.writer.marks left.next
      ≡ stand_below number left.writer.marks left.writer.fresh
  rest_numbers (OneMore old new before after rest next more) number low =
      let marks = old.writer.marks in
      let first = next.first in
      let end : suc next.slot ≡ next.slot + 1 = omega arith in
      let behind
      = subst
      (λ (left : Left). left.next ≤ left.writer.fresh
      → count_of_put (numbers rest) number + stand_below number left.writer.marks left.next
      ≡ stand_below number left.writer.marks left.writer.fresh)
      next.is (rest_numbers more number) (omega (arith, first.1)) in
      omega (
        arith,
        behind,
        ap (stand_below number marks) end,
        count_cons number (get_or marks.puts next.slot 0) (numbers rest),
        stands_there number marks.puts marks.reaped next.slot first.3,
        reaped_gap number marks (next.slot - old.next) old.next next.slot (omega (arith, first.0)) first.2,
      )
  rest_numbers (NoMore old new before after none) number low =
      let fresh : ℕ = old.writer.fresh in
      let gap = reaped_gap number old.writer.marks (fresh - old.next) old.next fresh (omega arith) none.0 in omega arith

  pub rest_stands : {left : Left} {rest : List Given} → AllComeOut shows left rest → All (StandsIn left.writer) rest
  rest_stands (OneMore old new before after rest next more) =
      All-cons (StandsIn old.writer) (given_at old.writer next.slot) rest (next.slot, next.first.1, next.first.3, refl)
      (subst (λ (left : Left). All (StandsIn left.writer) rest) next.is (rest_stands more))
  rest_stands (NoMore old new before after none) = All-nil (StandsIn old.writer)

  pub rest_comes_out_once_lem : RestComesOutOnce shows
  rest_comes_out_once_lem writer gone left rest number ledger apart out low =
      let marks = writer.marks in
      let all
      = subst
      (λ (p : Caller × ℕ). p.1 ≤ p.0.fresh → count_of_put (numbers rest) number + stand_below number p.0.marks p.1
      ≡ stand_below number p.0.marks p.0.fresh)
      (λ j. (apart.writer_is j, apart.next j)) (rest_numbers out number) (omega arith) in
      omega (
        arith,
        all,
        count_standing number marks.puts marks.reaped writer.fresh (omega (arith, ledger.slots.0, ledger.slots.1)),
        ledger.put number low,
      )
