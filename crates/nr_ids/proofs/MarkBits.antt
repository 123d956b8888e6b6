-- Use bits: what an or and an exclusive or make of them, and that a set one stays until the clerk turns it over.
use Rattle.std.proofs.Common.{◌≡◌, ◌≢◌, ℕ, zero, suc, ◌+◌, ◌*◌, ◌%◌, ◌^◌, ◌<◌, ◌≤◌, ◌⊎◌, zero-mul, List, [], ◌∷◌, ◌++◌}
use Rattle.std.proofs.Common.{arith, bit_and, bit_or, bit_xor}
use Rattle.std.specs.Int.{bit_at}
use Rattle.std.proofs.lemmas.Nat.Bits.{and_pow, bit_at-lt, bit_at-pow_other, bit_at-pow_same, bit_at-zero}
use Rattle.std.proofs.lemmas.Nat.Bits.{bit_at_cat_low, bit_at_or}
use Rattle.std.proofs.lemmas.Nat.{pow_below, pow_pos}
use Rattle.std.proofs.Math.Nat.{mod-eq_of_lt}
use Rattle.std.proofs.lemmas.Bool.Decides.{nat_tests}
use Rattle.nr_ids.specs.declared.plan.Plan.{Plan}
use Rattle.nr_ids.specs.Groups.{group_of_way}
use Rattle.nr_ids.specs.Events.{Event, own, mark_bit, marks_of, AreMarked, HasMark, IsLegal, IsMarked}
use Rattle.nr_ids.specs.Marks.{ChoosesPlace, begin_of, bits_from, place_after}

-- a way by its group and its bit
pub same_way : (way other : ℕ) → group_of_way way ≡ group_of_way other → mark_bit way ≡ mark_bit other → way ≡ other
same_way way other group bit =
    grind (arith, bit_at-pow_same (way % 8), bit_at-pow_other (other % 8) (way % 8))

-- a place's bit as the code makes it
pub shifted : (place : ℕ) → place < 8 → 1 * 2 ^ place % 2 ^ 64 ≡ 2 ^ place
shifted place low = grind (arith, pow_below place 64 (omega arith), mod-eq_of_lt)

pub shifted_bit : (way : ℕ) → 1 * 2 ^ (way % 8) % 2 ^ 64 ≡ mark_bit way
shifted_bit way = shifted (way % 8) (omega arith)

pub unmarked : (marks place : ℕ) → (HasMark marks place → ⊥) → bit_at marks place ≡ 0
unmarked marks place other = let low = bit_at-lt marks place in omega (arith, low, other)

-- whether it is among these marks
pub bit_set : (marks place : ℕ) → place < 8 → bit_and marks (1 * 2 ^ place % 2 ^ 64) ≢ 0 → HasMark marks place
bit_set marks place low some =
    grind (arith, shifted place low, and_pow marks place, bit_at-lt marks place, zero-mul (2 ^ place))

pub bit_unset : (marks place : ℕ) → place < 8 → bit_and marks (1 * 2 ^ place % 2 ^ 64) ≡ 0 → bit_at marks place ≡ 0
bit_unset marks place low none =
    grind (arith, shifted place low, and_pow marks place, bit_at-lt marks place, pow_pos place)

-- a set bit stays so but for the clerk
pub quiet_mark : (plan : Plan) (rest log : List Event) (group place : ℕ) → own 0 rest ≡ [] → IsLegal plan (rest ++ log)
    → HasMark (marks_of log group) place → HasMark (marks_of (rest ++ log) group) place
quiet_mark plan [] log group place quiet legal set = set
quiet_mark plan (event ∷ rest) log group place quiet legal set =
    let was = quiet_mark plan rest log group place in grind (arith, nat_tests, bit_at_or, bit_at-lt)

-- the bits that a choice turns over among the use bits are those of the places that it passed
pub bits_from_only : (begin count place : ℕ) → bit_at (bits_from begin count) place ≡ 1
    → (step : ℕ) × (step < count) × (place ≡ place_after begin step)
bits_from_only begin zero place on = grind (arith, bit_at-zero)
bits_from_only begin (suc count) place on =
    grind (arith, bits_from_only begin count place, bit_at-pow_other, bit_at_or, bit_at-lt)

pub moved_low : (n place : ℕ) → place < 8 → bit_at (256 * n) place ≡ 0
moved_low n place low = grind (arith, bit_at_cat_low n 8 0 place low, bit_at-zero place)

pub turned_bits : (marks place bits : ℕ) (chooses : ChoosesPlace marks place bits) (at : ℕ) → at < 8
    → bit_at bits at ≡ bit_at (bits_from (begin_of marks) chooses.passed) at
turned_bits marks place bits chooses at low =
    grind (
      arith,
      bit_at_or,
      moved_low (bit_xor (begin_of marks) (place_after place 1)) at low,
      bit_at-lt,
      chooses.bits_are,
    )

pub turned_are_marked : (marks place bits : ℕ) → ChoosesPlace marks place bits → (at : ℕ) → at < 8
    → bit_at bits at ≡ 1 → HasMark marks at
turned_are_marked marks place bits chooses at low on =
    grind (
      arith,
      bits_from_only (begin_of marks) chooses.passed at,
      turned_bits marks place bits chooses at,
      chooses.marked,
    )

-- one way's bit
pub bit_is_marked : (log : List Event) (way bit : ℕ) → bit ≡ mark_bit way → IsMarked log way
    → AreMarked log (group_of_way way) bit
bit_is_marked log way bit is set place low on = grind (arith, bit_at-pow_other)

-- THE CHOICE, STEP BY STEP
pub bits_on : (marks passed step : ℕ) → passed ≡ bits_from (begin_of marks) step
    → bit_or passed (1 * 2 ^ place_after (begin_of marks) step % 2 ^ 64) ≡ bits_from (begin_of marks) (step + 1)
bits_on marks passed step is =
    let more : suc step ≡ step + 1 = omega arith in
    rw (shifted (place_after (begin_of marks) step) (omega arith), is, ← more)

pub chosen_so : (marks place passed moved count : ℕ) → count ≤ 8 → place ≡ place_after (begin_of marks) count
    → ((step : ℕ) → step < count → HasMark marks (place_after (begin_of marks) step))
    → (bit_at marks place ≡ 0) ⊎ (count ≡ 8) → passed ≡ bits_from (begin_of marks) count
    → moved ≡ 256 * bit_xor (begin_of marks) (place_after place 1) → ChoosesPlace marks place (bit_or passed moved)
chosen_so marks place passed moved count few place_is were ends passed_is moved_is = record {
  passed = count;
  few = few;
  place_is = place_is;
  marked = were;
  ends = ends;
  bits_are = rw (moved_is, passed_is);
}
