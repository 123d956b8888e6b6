-- Slots: where their words stand, which slot a key's word names, and which set a slot spells.
use Rattle.std.specs.Prelude.{◌≡◌, ℕ, suc, ◌+◌, ◌<◌, ◌==◌, nat_le, Bool, List, cond, length, take, drop, slice_index}
use Rattle.nr_model.specs.declared.rows.Row.{Row}
use Rattle.nr_model.specs.Rows.{IsRowSet}
use Rattle.nr_core.specs.declared.shape.Shape.{Shape}
use Rattle.nr_core.specs.Sums.{below, only}
use Rattle.nr_words.specs.declared.layout.Layout.{Layout}
use Rattle.nr_words.specs.KeyWords.{is_filled, slot_of}
use Rattle.nr_words.specs.Opening.{opening_words}
use Rattle.nr_words.specs.Places.{Departures, Content, place_of}
use Rattle.nr_words.specs.SetWords.{encode, content_words}

-- how many rows a key may have
abbrev pub bound_of : Shape → ℕ
bound_of shape = shape.rows

-- how many content words a slot has, and where its words stand; a key's word stands at the key's number
abbrev pub slot_room : Shape → ℕ
slot_room shape = content_words (bound_of shape)

abbrev pub layout : Shape → Layout
layout shape = record { keys = shape.keys; slots = shape.slots; rows = shape.rows }

abbrev pub departures : Shape → ℕ → ℕ
departures shape slot = place_of (layout shape) (Departures slot)

abbrev pub content : Shape → ℕ → ℕ → ℕ
content shape slot index = place_of (layout shape) (Content slot index)

-- the words at opening: every key a hole with the first number, every slot's departures the first count
abbrev pub words_at_opening : Shape → List ℕ
words_at_opening shape = opening_words (layout shape) shape.first_count shape.first_number

-- 0 for a word that is not filled, else 1 more than its slot
abbrev pub name_number : ℕ → ℕ
name_number word = cond (is_filled word) (slot_of word + 1) 0

-- the word names the slot
abbrev pub names_slot : ℕ → ℕ → Bool
names_slot slot word = name_number word == suc slot

-- how many keys name the slot
abbrev pub named : Shape → List ℕ → ℕ → ℕ
named shape words slot = below (λ key. only (suc slot) (name_number (slice_index words key))) shape.keys

-- 1 for a slot that was never taken, where that many were
abbrev pub unused : ℕ → ℕ → ℕ
unused slot fresh = cond (nat_le fresh slot) 1 0

-- a slot's content words
abbrev pub slot_content : Shape → List ℕ → ℕ → List ℕ
slot_content shape words slot = take (slot_room shape) (drop (content shape slot 0) words)

-- the slot's content words are those of the row set
abbrev pub SlotSpells : Shape → List ℕ → ℕ → List Row → Type 0
SlotSpells shape words slot rows =
    IsRowSet (bound_of shape) rows
    × ((index : ℕ) → index < length (encode rows)
    → slice_index words (content shape slot index) ≡ slice_index (encode rows) index)
