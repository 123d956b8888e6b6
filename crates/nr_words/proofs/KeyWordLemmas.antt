-- A key's word packs its parts and gives them back, and a step of a reader changes one part alone.
use Rattle.std.proofs.Common.{◌≡◌, ℕ, ◌+◌, ◌-◌, ◌*◌, ◌/◌, ◌%◌, ◌^◌, ◌<◌, ◌==◌, Bool, bit_and, bit_or, ap, arith, zero}
use Rattle.std.proofs.Common.{suc, refl}
use Rattle.std.proofs.lemmas.Nat.{or_shifted, or_shr, or_mod, and_mask}
use Rattle.std.specs.Prelude.{if◌then◌else◌, Some, None}
use Rattle.std.specs.Int.{from_bool}
use Rattle.std.specs.Int.Bits.{or_zero_r}
use Rattle.nr_words.specs.declared.key_words.KeyParts.{KeyParts}
use Rattle.nr_words.specs.KeyWords.{key_word, has_ask, is_filled, slot_of, arrivals_of, parts_of, with_arrival}
use Rattle.nr_words.specs.KeyWords.{with_ask}
use Rattle.nr_words.specs.Laws.{ArrivalCountsOne, AskSetsFlag, ReadersKeepNames, ReadersKeepNumbers}

-- BY SHIFTS AND MASKS

-- a low part beside what is above it
or_beside : (n k high low : ℕ) → high ≡ n * 2 ^ k → low < 2 ^ k → bit_or high low ≡ high + low
or_beside n k high low above below = rw above (or_shifted n k low below)

pub or_of_fields : (ask filled slot arrivals : ℕ) → ask < 2 → filled < 2 → slot < 2 ^ 22 → arrivals < 2 ^ 40
    → bit_or (bit_or (bit_or (arrivals * 2 ^ 24 % 2 ^ 64) (slot * 4 % 2 ^ 64)) (filled * 2 % 2 ^ 64)) ask
    ≡ ask + 2 * filled + 4 * slot + 2 ^ 24 * arrivals
or_of_fields ask filled slot arrivals a f s n =
    let top : ℕ = arrivals * 2 ^ 24 % 2 ^ 64 in
    let named : ℕ = slot * 4 % 2 ^ 64 in
    let flag : ℕ = filled * 2 % 2 ^ 64 in
    let with_slot : bit_or top named ≡ top + named = or_beside arrivals 24 top named (omega arith) (omega arith) in
    let with_filled : bit_or (top + named) flag ≡ top + named + flag
    = or_beside (arrivals * 2 ^ 22 + slot) 2 (top + named) flag (omega arith) (omega arith) in
    let whole : bit_or (top + named + flag) ask ≡ top + named + flag + ask
    = or_beside (arrivals * 2 ^ 23 + slot * 2 + filled) 1 (top + named + flag) ask (omega arith) (omega arith) in
    rw (with_slot, with_filled, whole) (omega arith)

pub parts_by_masks : (word : ℕ)
    → ◌≡◌ {A = KeyParts} (record {
      ask = bit_and word 1 == 1;
      filled = bit_and (word / 2) 1 == 1;
      slot = bit_and (word / 4) (2 ^ 22 - 1);
      arrivals = word / 2 ^ 24;
    })
    (parts_of word)
parts_by_masks
    word = λ i.
    record {
      ask = and_mask word 1 i == 1;
      filled = and_mask (word / 2) 1 i == 1;
      slot = and_mask (word / 4) 22 i;
      arrivals = arrivals_of word;
    }

-- PACKED, AND BACK

pub from_bool_below : (flag : Bool) → from_bool flag < 2
from_bool_below flag = grind arith

test_of_bit : (flag : Bool) (bit : ℕ) → bit ≡ from_bool flag → (bit == 1) ≡ flag
test_of_bit flag bit e = grind arith

from_bool_of_test : (bit : ℕ) → bit < 2 → from_bool (bit == 1) ≡ bit
from_bool_of_test bit below = grind arith

pub parts_of-key_word : (parts : KeyParts) → parts.slot < 2 ^ 22 → parts.arrivals < 2 ^ 40
    → parts_of (key_word parts) ≡ parts
parts_of-key_word parts s n =
    let a = from_bool_below parts.ask in
    let f = from_bool_below parts.filled in
    let ask : has_ask (key_word parts) ≡ parts.ask = test_of_bit parts.ask (key_word parts % 2) (omega arith) in
    let filled : is_filled (key_word parts) ≡ parts.filled
    = test_of_bit parts.filled (key_word parts / 2 % 2) (omega arith) in
    let slot : slot_of (key_word parts) ≡ parts.slot = omega arith in
    let arrivals : arrivals_of (key_word parts) ≡ parts.arrivals = omega arith in
    λ i. record { ask = ask i; filled = filled i; slot = slot i; arrivals = arrivals i }

pub key_word-parts_of : (word : ℕ) → key_word (parts_of word) ≡ word
key_word-parts_of word =
    omega (arith, from_bool_of_test (word % 2) (omega arith), from_bool_of_test (word / 2 % 2) (omega arith))

-- A READER'S STEPS

pub arrival_counts_one_lem : ArrivalCountsOne
arrival_counts_one_lem word =
    let ask : with_arrival word % 2 ≡ word % 2 = omega arith in
    let filled : with_arrival word / 2 % 2 ≡ word / 2 % 2 = omega arith in
    let slot : slot_of (with_arrival word) ≡ slot_of word = omega arith in
    let arrivals : arrivals_of (with_arrival word) ≡ (arrivals_of word + 1) % 2 ^ 40 = omega arith in
    λ i. record { ask = ask i == 1; filled = filled i == 1; slot = slot i; arrivals = arrivals i }

or_one_at_bit : (bit : ℕ) → bit < 2 → bit_or bit 1 ≡ 1
or_one_at_bit zero below = refl
or_one_at_bit (suc zero) below = refl
or_one_at_bit (suc (suc bit)) below = absurd (omega arith)

pub with_ask_is : (word : ℕ) → with_ask word ≡ 2 * (word / 2) + 1
with_ask_is word =
    let high : with_ask word / 2 ≡ bit_or (word / 2) 0 = or_shr word 1 1 in
    let same : bit_or (word / 2) 0 ≡ word / 2 = or_zero_r (word / 2) in
    let low : with_ask word % 2 ≡ bit_or (word % 2) 1 = or_mod word 1 1 in
    let set : bit_or (word % 2) 1 ≡ 1 = or_one_at_bit (word % 2) (omega arith) in
    omega arith

pub ask_sets_flag_lem : AskSetsFlag
ask_sets_flag_lem word =
    let is = with_ask_is word in
    let ask : with_ask word % 2 ≡ 1 = omega arith in
    let filled : with_ask word / 2 % 2 ≡ word / 2 % 2 = omega arith in
    let slot : slot_of (with_ask word) ≡ slot_of word = omega arith in
    let arrivals : arrivals_of (with_ask word) ≡ arrivals_of word = omega arith in
    λ i. record { ask = ask i == 1; filled = filled i == 1; slot = slot i; arrivals = arrivals i }

pub readers_keep_names_lem : ReadersKeepNames
readers_keep_names_lem word =
    let name = λ (parts : KeyParts). (if parts.filled then Some parts.slot else None) in
    (ap name (arrival_counts_one_lem word), ap name (ask_sets_flag_lem word))

pub readers_keep_numbers_lem : ReadersKeepNumbers
readers_keep_numbers_lem word =
    let number = λ (parts : KeyParts). (if parts.filled then None else Some parts.slot) in
    (ap number (arrival_counts_one_lem word), ap number (ask_sets_flag_lem word))
