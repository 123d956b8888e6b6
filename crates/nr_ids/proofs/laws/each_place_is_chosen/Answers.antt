use Rattle.std.proofs.Common.{◌≡◌, ℕ, zero, suc, ◌+◌, ◌-◌, ◌*◌, ◌%◌, ◌<◌, ◌≤◌, List, [], ◌∷◌, length, sym, subst, arith}
use Rattle.std.proofs.Common.{bit_xor}
use Rattle.std.specs.Int.{bit_at}
use Rattle.std.specs.List.{Contains}
use Rattle.std.proofs.lemmas.List.Elements.{Contains-append_right, Contains-get_or}
use Rattle.std.proofs.lemmas.Nat.Bits.{bit_at-lt, bit_at-pow_same, bit_at_cat_high, bit_at_or, bit_at_xor}
use Rattle.std.proofs.lemmas.Nat.Bits.{same_from_bits_below}
use Rattle.nr_ids.specs.Marks.{ChoosesPlace, begin_of, bits_from, place_after}
use Rattle.nr_ids.specs.Laws.{ChoosesInTurn, EachPlaceIsChosen}
use Rattle.nr_ids.proofs.MarkBits.{bits_from_only, turned_bits}
use Rattle.nr_ids.proofs.laws.each_place_is_chosen.Goals as goal

-- One that has no mark is so much further on, and each choice comes nearer to it; one that has a mark is passed once,
-- and is eight places further on then.
-- the marks that were passed are among the bits that are turned over, and no other is
bits_from_has : (begin count step : ℕ) → step < count → bit_at (bits_from begin count) (place_after begin step) ≡ 1
bits_from_has begin zero step near = grind arith
bits_from_has begin (suc count) step near =
    grind (arith, bits_from_has begin count step, bit_at_or, bit_at-lt, bit_at-pow_same)

bits_from_lack : (begin count step : ℕ) → count ≤ 8 → step < 8 → count ≤ step
    → bit_at (bits_from begin count) (place_after begin step) ≡ 0
bits_from_lack begin count step few low behind =
    let place : ℕ = place_after begin step in
    grind (arith, bits_from_only begin count place, bit_at-lt (bits_from begin count) place)

-- the next choice begins behind the place
bit_of_begin : (marks i : ℕ) → i < 3 → bit_at (begin_of marks) i ≡ bit_at marks (8 + i)
bit_of_begin marks (suc (suc (suc more))) low = absurd (omega (arith, low))
bit_of_begin marks i low = omega arith

module _ (marks place bits : ℕ) (chooses : ChoosesPlace marks place bits) where
  abbrev begin : ℕ
  begin = begin_of marks

  abbrev next : ℕ
  next = place_after place 1

  high_bit : (i : ℕ) → bit_at bits (8 + i) ≡ bit_at (bit_xor begin next) i
  high_bit i =
      grind (
        arith,
        bits_from_only begin chooses.passed (8 + i),
        bit_at-lt,
        bit_at_or,
        chooses.bits_are,
        bit_at_cat_high (bit_xor begin next) 8 0 (8 + i),
      )

  next_bit : (i : ℕ) → i < 3 → bit_at (begin_of (bit_xor marks bits)) i ≡ bit_at next i
  next_bit i low = grind (arith, bit_of_begin, high_bit i, bit_at_xor, bit_at-lt)

  begins_behind : begin_of (bit_xor marks bits) ≡ next
  begins_behind = same_from_bits_below 3 (begin_of (bit_xor marks bits)) next (omega arith) (omega arith) next_bit

  -- a mark that was passed is gone, and another stands
  bit_passed : (step : ℕ) → step < chooses.passed → bit_at (bit_xor marks bits) (place_after begin step) ≡ 0
  bit_passed step near =
      let at : ℕ = place_after begin step in
      grind (
        arith,
        chooses.marked step near,
        turned_bits marks place bits chooses at,
        bits_from_has begin chooses.passed step near,
        bit_at_xor marks bits at,
      )

  bit_stays : (step : ℕ) → step < 8 → chooses.passed ≤ step
      → bit_at (bit_xor marks bits) (place_after begin step) ≡ bit_at marks (place_after begin step)
  bit_stays step low behind =
      let at : ℕ = place_after begin step in
      grind (
        arith,
        bit_at-lt marks at,
        turned_bits marks place bits chooses at,
        bits_from_lack begin chooses.passed step,
        bit_at_xor marks bits at,
      )

named_soon : (marks : ℕ) (places : List ℕ) (far : ℕ) → ChoosesInTurn marks places → far < 8
    → far + 8 * bit_at marks (place_after (begin_of marks) far) < length places
    → Contains places (place_after (begin_of marks) far)
named_soon marks [] far turns low soon = absurd (omega (arith, soon))
named_soon marks (place ∷ places) far (bits, chooses, turns) low soon =
    let passed : ℕ = chooses.passed in
    let few = chooses.few in
    let is = chooses.place_is in
    let at : ℕ = place_after (begin_of marks) far in
    let rest : ℕ = bit_xor marks bits in
    let behind = begins_behind marks place bits chooses in
    let on : (left : ℕ) → left < 8 → at ≡ place_after (begin_of rest) left
    → left + 8 * bit_at rest at < length places → Contains (place ∷ places) at
    = λ left near same less. Contains-append_right (place ∷ []) places at
    (rw same (named_soon rest places left turns near (rw same at less))) in
    let here : place ≡ at → Contains (place ∷ places) at
    = λ e. rw (← e) (Contains-get_or (place ∷ places) 0 0 (omega arith)) in
    let stays = bit_stays marks place bits chooses far low in
    let gone = bit_passed marks place bits chooses far in
    let set = chooses.marked far in
    grind (arith, on (far - passed - 1), on (far - 1), on (far + 7 - passed), here)

each_place_is_chosen : EachPlaceIsChosen
each_place_is_chosen marks places place turns low many =
    let begin : ℕ = begin_of marks in
    let far : ℕ = (place + 8 - begin) % 8 in
    let is : place_after (begin_of marks) far ≡ place = omega (arith, low) in
    subst (Contains places) is
    (named_soon marks places far turns (omega arith)
    (subst (λ (k : ℕ). far + 8 * bit_at marks k < length places) (sym is) (omega (arith, many))))

pub returns : goal.returns
returns c = each_place_is_chosen
