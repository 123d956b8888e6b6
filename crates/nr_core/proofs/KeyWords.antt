-- What a key's word names and asks: after an arrival, after a request, and where it is written anew.
use Rattle.std.proofs.Common.{ap, arith, cond, eq-eqb, false, ne_eqb, suc, true, ℕ, ◌%◌, ◌*◌, ◌+◌, ◌/◌, ◌<◌, ◌^◌, List}
use Rattle.std.proofs.Common.{get_or, ◌≡◌, ◌≢◌}
use mathlib.Core.Logic.{dite}
use native.Mathlib.Decide.{ℕ_discrete}
use Rattle.nr_words.specs.KeyWords.{arrivals_of, hole_word, is_filled, naming, slot_of}
use Rattle.nr_core.proofs.Sums.{below-term, only-same}
use Rattle.nr_core.specs.Slots.{name_number, named}
use Rattle.nr_core.specs.Sums.{only}
use Rattle.nr_core.specs.declared.shape.Shape.{Shape}

-- an arrival leaves what the word names and asks, and counts one
pub bumped : (w : ℕ) → ((w + 2 ^ 24) % 2 ^ 64 % 2 ^ 24 ≡ w % 2 ^ 24) × ((w + 2 ^ 24) % 2 ^ 64 % 4 ≡ w % 4)
    × ((w + 2 ^ 24) % 2 ^ 64 / 2 ^ 24 % 2 ^ 40 ≡ (w / 2 ^ 24 + 1) % 2 ^ 40)
bumped w = (omega arith, omega arith, omega arith)

pub not_filled : (w : ℕ) → w / 2 % 2 ≢ 1 → is_filled w ≡ false
not_filled w ne = ne_eqb (w / 2 % 2) 1 ne

pub yes_filled : (w : ℕ) → w / 2 % 2 ≡ 1 → is_filled w ≡ true
yes_filled w e = eq-eqb (w / 2 % 2) 1 e

pub name_low : (w : ℕ) → w / 2 % 2 ≢ 1 → name_number w ≡ 0
name_low w ne = ap (λ b. cond b (slot_of w + 1) 0) (not_filled w ne)

pub name_high : (w : ℕ) → w / 2 % 2 ≡ 1 → name_number w ≡ slot_of w + 1
name_high w e = ap (λ b. cond b (slot_of w + 1) 0) (yes_filled w e)

-- a word names no slot exactly where it is not filled
pub names_none : (w : ℕ) → name_number w ≡ 0 → is_filled w ≡ false
names_none w e =
    dite (ℕ_discrete (w / 2 % 2) 1) (λ l. let n = name_high w l in absurd (omega arith)) (λ l. not_filled w l)

pub names_one : (w s : ℕ) → name_number w ≡ suc s → (is_filled w ≡ true) × (slot_of w ≡ s)
names_one w s e = search (arith, name_high, yes_filled, name_low)

-- words with the same slot and the same flag name the same
pub same_name : (w x : ℕ) → x / 4 % 2 ^ 22 ≡ w / 4 % 2 ^ 22 → x / 2 % 2 ≡ w / 2 % 2 → name_number x ≡ name_number w
same_name w x slot flag = search (arith, name_high, name_low)

pub name-bumped : (w : ℕ) → name_number ((w + 2 ^ 24) % 2 ^ 64) ≡ name_number w
name-bumped w = same_name w ((w + 2 ^ 24) % 2 ^ 64) (omega arith) (omega arith)

pub name-asked : (w x : ℕ) → x ≡ 2 * (w / 2) + 1 → name_number x ≡ name_number w
name-asked w x e = same_name w x (omega arith) (omega arith)

-- the word of a hole: it names nothing, and tells its number
pub hole_is : (n : ℕ) → n < 2 ^ 22
    → (name_number (hole_word n false) ≡ 0) × (hole_word n false % 2 ≡ 0) × (slot_of (hole_word n false) ≡ n)
hole_is n l = (name_low (hole_word n false) (λ z. omega arith), omega arith, omega arith)

-- the word that a publish writes
pub naming_is : (t e : ℕ) → t < 2 ^ 22 → (name_number (naming t e) ≡ suc t) × (arrivals_of (naming t e) ≡ e % 2 ^ 40)
naming_is t e l = let n = name_high (naming t e) (omega arith) in (omega arith, omega arith)

-- a slot that a key names is named
pub is_named : (shape : Shape) (words : List ℕ) (key slot : ℕ) → key < shape.keys
    → name_number (get_or words key 0) ≡ suc slot → 0 < named shape words slot
is_named shape words key slot near names =
    omega (
      arith,
      below-term (λ j. only (suc slot) (name_number (get_or words j 0))) shape.keys key near,
      ap (only (suc slot)) names,
      only-same (suc slot),
    )
