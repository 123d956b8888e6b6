-- The bytes of a word of hints, and the places that are picked out of them.
use Rattle.std.proofs.Common.{◌+◌, ◌*◌, ◌≡◌, ℕ, zero, suc, ◌-◌, ◌/◌, ◌%◌, ◌^◌, ◌<◌, ◌==◌, cond, Bool, false, map, sym}
use Rattle.std.proofs.Common.{ap, ◌∙◌, arith, bit_and}
use lib.Lanes.{mask_l}
use Rattle.std.proofs.lemmas.Bool.Decides.{nat_tests}
use Rattle.std.specs.Int.{bit_at, leading_zeros, to_le_bytes, w64}
use Rattle.std.proofs.lemmas.Nat.{div-mul-add}
use lib.Count.{leading_top}
use native.Mathlib.Nat.{two-pow-succ}
use Rattle.std.proofs.lemmas.List.{get_or-map}
use Rattle.std.proofs.lemmas.Simd.{bit_mask_l}
use Rattle.std.proofs.lemmas.Nat.Bits.{bit_at-suc, bit_at_above, bit_at_and, bit_at_lowest}
use Rattle.nr_ids.specs.Events.{hint_at}
use Rattle.nr_ids.specs.Looking.{IsFirst}

abbrev pub matches : ℕ → ℕ → ℕ
matches hints hint = mask_l (map (λ (x : ℕ). x == hint) (to_le_bytes w64 hints))

bit_here : (hints hint place : ℕ) → place < 8
    → bit_at (matches hints hint) place ≡ cond (hint_at hints place == hint) 1 0
bit_here hints hint place low =
    bit_mask_l (map (λ (x : ℕ). x == hint) (to_le_bytes w64 hints)) place
    ∙ ap (λ (b : Bool). cond b 1 0) (get_or-map (λ (x : ℕ). x == hint) (to_le_bytes w64 hints) place 0 false low)

pub fits_so : (hints hint place : ℕ) → place < 8 → bit_at (matches hints hint) place ≡ 1 → hint_at hints place ≡ hint
fits_so hints hint place low on = grind (arith, nat_tests, bit_here hints hint place low)

pub is_fitting : (hints hint place : ℕ) → place < 8 → hint_at hints place ≡ hint → bit_at (matches hints hint) place ≡ 1
is_fitting hints hint place low e = grind (arith, nat_tests, bit_here hints hint place low)

-- the first of some places is one of eight
pub first_inside : (bits place : ℕ) → bits < 2 ^ 8 → bit_at bits place ≡ 1 → place < 8
first_inside bits place few on = grind (arith, bit_at_above bits 8 place few)

-- without the lowest bit the others stay
pub lowest_cleared : (first bits place : ℕ) → 0 < bits → IsFirst bits first
    → bit_at (bit_and bits (bits - 1)) place ≡ cond (place == first) 0 (bit_at bits place)
lowest_cleared zero bits zero some is =
    let odd : bits % 2 ≡ 1 = sym (bit_at_lowest bits) ∙ is.0 in
    let even : bit_at (bits - 1) 0 ≡ 0 = bit_at_lowest (bits - 1) ∙ omega (arith, odd, some) in
    bit_at_and bits (bits - 1) 0 ∙ omega (arith, even)
lowest_cleared zero bits (suc place) some is =
    let half : (bits - 1) / 2 ≡ bits / 2 = grind (arith, bit_at_lowest bits) in
    grind (arith, nat_tests, bit_at-suc, bit_at_and)
lowest_cleared (suc first) bits zero some is =
    let none : bit_at bits 0 ≡ 0 = is.1 0 (omega arith) in grind (arith, nat_tests, bit_at_and bits (bits - 1) 0)
lowest_cleared (suc first) bits (suc place) some is =
    let none : bits % 2 ≡ 0 = sym (bit_at_lowest bits) ∙ is.1 0 (omega arith) in
    let half : (bits - 1) / 2 ≡ bits / 2 - 1 = omega (arith, none, some) in
    let more : 0 < bits / 2 = omega (arith, none, some) in
    let on = lowest_cleared first (bits / 2) place more (
      sym (bit_at-suc bits first) ∙ is.0,
      λ other near. sym (bit_at-suc bits other) ∙ is.1 (suc other) (omega (arith, near)),
    ) in
    grind (arith, nat_tests, bit_at-suc, bit_at_and)

-- the highest bit is set
pub highest_set : (bits : ℕ) → 0 < bits → bits < 2 ^ 64 → bit_at bits (63 - leading_zeros w64 bits) ≡ 1
highest_set bits some few =
    let top = leading_top 64 bits some few in
    let at : 63 - leading_zeros w64 bits ≡ top.0 = omega (arith, top.1) in
    let p : ℕ = 2 ^ top.0 in
    let twice : 2 ^ suc top.0 ≡ p + p = two-pow-succ top.0 in
    let below : bits - p < p = omega (arith, top.2, top.3, twice) in
    let whole : bits ≡ 1 * p + (bits - p) = omega (arith, top.2) in
    ap (bit_at bits) at ∙ ap (λ (n : ℕ). n / p % 2) whole ∙ ap (λ (n : ℕ). n % 2) (div-mul-add 1 p (bits - p) below)
