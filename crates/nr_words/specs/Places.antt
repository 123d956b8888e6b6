-- Where each word lies in the table: the words of the keys first, and then, slot by slot, its departures and its
-- content.
use Rattle.std.specs.Prelude.{ℕ, ◌+◌, ◌*◌, ◌<◌}
use Rattle.nr_words.specs.declared.layout.Layout.{Layout}
use Rattle.nr_words.specs.SetWords.{content_words}

-- how many words a slot has that holds that many rows: its departures, and its content
abbrev pub slot_words : ℕ → ℕ
slot_words rows = 1 + content_words rows

-- a word of the table, by what it is
pub data Word : Type 0 where
  KeyWord : (key : ℕ) → Word
  Departures : (slot : ℕ) → Word
  Content : (slot index : ℕ) → Word

-- the layout has that word
abbrev pub HasWord : Layout → Word → Type 0
HasWord layout (KeyWord key) = key < layout.keys
HasWord layout (Departures slot) = slot < layout.slots
HasWord layout (Content slot index) = (slot < layout.slots) × (index < content_words layout.rows)

-- where that word lies
abbrev pub place_of : Layout → Word → ℕ
place_of layout (KeyWord key) = key
place_of layout (Departures slot) = layout.keys + slot_words layout.rows * slot
place_of layout (Content slot index) = layout.keys + slot_words layout.rows * slot + 1 + index

-- how many words there are
abbrev pub total_of : Layout → ℕ
total_of layout = layout.keys + slot_words layout.rows * layout.slots
