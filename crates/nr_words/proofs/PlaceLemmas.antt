-- Each word of a layout has a place of its own below the total, and each such place is a word's.
use Rattle.std.proofs.Common.{◌≡◌, ℕ, zero, suc, ◌+◌, ◌-◌, ◌*◌, ◌/◌, ◌%◌, ◌<◌, ap, refl, subst, ⊎_elim, arith, mul_comm}
use Rattle.std.proofs.lemmas.Bool.{cases_lt}
use Rattle.std.proofs.lemmas.Nat.{same_from_place, mul-add-lt, div_below, mod_below, div-add-mod'}
use Rattle.nr_words.specs.declared.layout.Layout.{Layout}
use Rattle.nr_words.specs.Places.{Word, KeyWord, Departures, Content, HasWord, place_of, total_of, slot_words}
use Rattle.nr_words.specs.Laws.{PlacesDiffer, PlacesAreBelowTotal}

-- the word of a slot's block at that place in it
abbrev pub in_block : ℕ → ℕ → Word
in_block slot zero = Departures slot
in_block slot (suc index) = Content slot index

-- two places in the blocks of slots that are one are one place in one block
pub same_in_block : (layout : Layout) (s i t j : ℕ) → i < slot_words layout.rows → j < slot_words layout.rows
    → layout.keys + slot_words layout.rows * s + i ≡ layout.keys + slot_words layout.rows * t + j → (s ≡ t) × (i ≡ j)
same_in_block layout s i t j near far e = same_from_place s i t j (slot_words layout.rows) near far (omega arith)

pub places_differ_lem : PlacesDiffer
places_differ_lem layout (KeyWord key) (KeyWord other) h k e = ap KeyWord e
places_differ_lem layout (Departures slot) (Departures other) h k e =
    let same = same_in_block layout slot 0 other 0 (omega arith) (omega arith) (omega arith) in
    ap Departures same.0
places_differ_lem layout (Departures slot) (Content other index) h k e =
    let same = same_in_block layout slot 0 other (1 + index) (omega arith) (omega arith) (omega arith) in
    absurd (omega arith)
places_differ_lem layout (Content slot index) (Departures other) h k e =
    let same = same_in_block layout slot (1 + index) other 0 (omega arith) (omega arith) (omega arith) in
    absurd (omega arith)
places_differ_lem layout (Content slot index) (Content other place) h k e =
    let same = same_in_block layout slot (1 + index) other (1 + place) (omega arith) (omega arith) (omega arith) in
    let beside : index ≡ place = omega arith in
    λ i. Content (same.0 i) (beside i)
places_differ_lem layout word other h k e = absurd (omega arith)

-- the block of a slot lies whole below the total
pub in_block_below : (layout : Layout) (slot i : ℕ) → slot < layout.slots → i < slot_words layout.rows
    → layout.keys + slot_words layout.rows * slot + i < total_of layout
in_block_below layout slot i near within =
    let wide : ℕ = slot_words layout.rows in
    omega (arith, mul-add-lt slot wide i layout.slots near within, mul_comm wide slot, mul_comm wide layout.slots)

pub place_below : (layout : Layout) (word : Word) → HasWord layout word → place_of layout word < total_of layout
place_below layout (KeyWord key) h = omega arith
place_below layout (Departures slot) h = omega (arith, in_block_below layout slot 0 h (omega arith))
place_below layout (Content slot index) h = omega (arith, in_block_below layout slot (1 + index) h.0 (omega arith))

pub has_in_block : (layout : Layout) (slot i : ℕ) → slot < layout.slots → i < slot_words layout.rows
    → HasWord layout (in_block slot i)
    × (place_of layout (in_block slot i) ≡ layout.keys + slot_words layout.rows * slot + i)
has_in_block layout slot zero near within = (near, omega arith)
has_in_block layout slot (suc index) near within = ((near, omega arith), omega arith)

-- the word at a place
pub word_at : (layout : Layout) (place : ℕ) → place < total_of layout
    → (word : Word) × HasWord layout word × (place_of layout word ≡ place)
word_at layout place below =
    ⊎_elim
    (λ near. (KeyWord place, near, refl))
    (λ far.
    let wide : ℕ = slot_words layout.rows in
    let behind : ℕ = place - layout.keys in
    let slot : ℕ = behind / wide in
    let i : ℕ = behind % wide in
    let within : i < wide = mod_below behind wide (omega arith) in
    let near : slot < layout.slots
    = div_below behind wide layout.slots (omega arith) (omega (arith, mul_comm wide layout.slots)) in
    let has = has_in_block layout slot i near within in
    (in_block slot i, has.0, omega (arith, has.1, div-add-mod' behind wide, mul_comm wide slot)))
    (cases_lt place layout.keys)

pub places_are_below_total_lem : PlacesAreBelowTotal
places_are_below_total_lem layout place = (
  word_at layout place,
  λ found. let below = place_below layout found.0 found.1 in subst (λ p. p < total_of layout) found.2 below,
)
