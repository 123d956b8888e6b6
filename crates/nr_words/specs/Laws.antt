-- The laws that functions of the module `laws` show.
use Rattle.std.specs.Prelude.{◌≡◌, ℕ, ◌+◌, ◌%◌, ◌^◌, ◌<◌, ◌↔◌, true, List, take, Some, IsTrue}
use Rattle.nr_model.specs.declared.rows.Row.{Row}
use Rattle.nr_model.specs.Rows.{is_ascending}
use Rattle.nr_words.specs.declared.layout.Layout.{Layout}
use Rattle.nr_words.specs.KeyWords.{parts_of, arrivals_of, name_of, number_in, with_arrival, with_ask}
use Rattle.nr_words.specs.SetWords.{content_words, Spells, row_count, decode}
use Rattle.nr_words.specs.Places.{Word, HasWord, place_of, total_of}

-- an arrival changes the arrivals alone, by one modulo 2^40
abbrev pub ArrivalCountsOne : Type 0
ArrivalCountsOne =
    (word : ℕ) → parts_of (with_arrival word) ≡ record (parts_of word) { arrivals = (arrivals_of word + 1) % 2 ^ 40 }

-- to ask changes the flag alone
abbrev pub AskSetsFlag : Type 0
AskSetsFlag = (word : ℕ) → parts_of (with_ask word) ≡ record (parts_of word) { ask = true }

-- neither an arrival nor a request changes what the word names
abbrev pub ReadersKeepNames : Type 0
ReadersKeepNames = (word : ℕ) → (name_of (with_arrival word) ≡ name_of word) × (name_of (with_ask word) ≡ name_of word)

-- neither an arrival nor a request changes the ticket number that the word carries
abbrev pub ReadersKeepNumbers : Type 0
ReadersKeepNumbers =
    (word : ℕ) → (number_in (with_arrival word) ≡ number_in word) × (number_in (with_ask word) ≡ number_in word)

-- words decode to ascending rows exactly where they begin with what encode makes of them
abbrev pub DecodeUndoesEncode : Type 0
DecodeUndoesEncode =
    (words : List ℕ) (rows : List Row) →
    (decode words ≡ Some rows) ↔ (IsTrue (is_ascending rows) × Spells words rows)

-- decode looks at word 0, and at two words for each row that it tells of
abbrev pub DecodeReadsWhatCounts : Type 0
DecodeReadsWhatCounts = (words : List ℕ) → decode words ≡ decode (take (content_words (row_count words)) words)

-- two words of a layout have two indexes
abbrev pub PlacesDiffer : Type 0
PlacesDiffer =
    (layout : Layout) (word other : Word) →
    HasWord layout word →
    HasWord layout other →
    place_of layout word ≡ place_of layout other →
    word ≡ other

-- the indexes of a layout's words are those below its total
abbrev pub PlacesAreBelowTotal : Type 0
PlacesAreBelowTotal =
    (layout : Layout) (place : ℕ) →
    (place < total_of layout) ↔ ((word : Word) × HasWord layout word × (place_of layout word ≡ place))
