-- Where the words of slots lie: below the total, and those of one slot apart from those of another.
use Rattle.std.proofs.Common.{ℕ, ◌≡◌, ◌+◌, ◌<◌, arith}
use Rattle.nr_words.proofs.PlaceLemmas.{in_block_below, same_in_block}
use Rattle.nr_words.specs.Places.{total_of}
use Rattle.nr_core.specs.Slots.{content, departures, layout, slot_room}
use Rattle.nr_core.specs.declared.shape.Shape.{Shape}

pub content_inside : (shape : Shape) (slot index : ℕ) → slot < shape.slots → index < slot_room shape
    → content shape slot index < total_of (layout shape)
content_inside shape slot index near short =
    omega (arith, in_block_below (layout shape) slot (1 + index) near (omega arith))

pub departures_inside : (shape : Shape) (slot : ℕ) → slot < shape.slots
    → departures shape slot < total_of (layout shape)
departures_inside shape slot near = omega (arith, in_block_below (layout shape) slot 0 near (omega arith))

-- words of a slot at one place are of one slot
pub same_content : (shape : Shape) (slot index other place : ℕ) → index < slot_room shape → place < slot_room shape
    → content shape slot index ≡ content shape other place → slot ≡ other
same_content shape slot index other place short low e =
    (same_in_block (layout shape) slot (1 + index) other (1 + place) (omega arith) (omega arith) (omega arith)).0

pub same_departures : (shape : Shape) (slot other : ℕ) → departures shape slot ≡ departures shape other → slot ≡ other
same_departures shape slot other e =
    (same_in_block (layout shape) slot 0 other 0 (omega arith) (omega arith) (omega arith)).0

-- a content word is no departure word
pub content_apart : (shape : Shape) (slot index other : ℕ) → index < slot_room shape
    → content shape slot index ≡ departures shape other → ⊥
content_apart shape slot index other short e =
    let same = same_in_block (layout shape) slot (1 + index) other 0 (omega arith) (omega arith) (omega arith) in
    absurd (omega (arith, same.1))
