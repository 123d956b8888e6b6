-- What loads ahead of finds load: the words of keys, and words of the sets that these name.
use Rattle.std.specs.Prelude.{◌≡◌, ℕ, zero, suc, ◌+◌, ◌-◌, ◌*◌, ◌/◌, ◌%◌, ◌==◌, ◌&&◌, nat_lt, if◌then◌else◌, min, Bool}
use Rattle.std.specs.Prelude.{true, false, List, [], ◌∷◌, ◌++◌, length, map, take, flat_map, zip}
use Rattle.nr_words.specs.declared.layout.Layout.{Layout}
use Rattle.nr_words.specs.KeyWords.{is_filled, slot_of}
use Rattle.nr_words.specs.Places.{Content, place_of}
use Rattle.nr_core.specs.Slots.{layout}
use Rattle.nr_board.specs.Callers.{Caller}
use Rattle.nr_board.specs.Views.{Loaded, view_of}
use Rattle.nr_board.specs.WriterSeats.{MapSeat}

-- a load of the word at that place
abbrev pub load_of : ℕ → ℕ → Loaded
load_of place word = record { place = place; word = word }

abbrev pub places_of : List Loaded → List ℕ
places_of loads = map (λ (load : Loaded). load.place) loads

abbrev pub words_of : List Loaded → List ℕ
words_of loads = map (λ (load : Loaded). load.word) loads

-- who made those loads, which tell nothing of the map, is else as it was
abbrev pub with_loads : List Loaded → Caller → Caller
with_loads loads caller =
    record caller { steps = caller.steps + length loads; loaded_ahead = caller.loaded_ahead ++ loads }

-- a seat that made loads holds what it held, and its word says what it said
abbrev pub Stays : MapSeat → MapSeat → Type 0
Stays old new = ((view_of new).role ≡ (view_of old).role) × ((view_of new).says ≡ (view_of old).says)

-- the words at these places were loaded, in their order
pub record LoadsPlaces (places : List ℕ) (old new : Caller) : Type 0 where
  pub loads : List Loaded
  pub at : places_of loads ≡ places
  pub made : new ≡ with_loads loads old

-- the word of that key
abbrev pub LoadsKey : ℕ → Caller → Caller → Type 0
LoadsKey key old new = (word : ℕ) × (new ≡ with_loads (load_of key word ∷ []) old)

-- the word of each of these keys, and these were their words
pub record LoadsKeys (keys words : List ℕ) (old new : Caller) : Type 0 where
  pub loads : LoadsPlaces keys old new
  pub words_are : words_of loads.loads ≡ words

-- THE SET THAT A KEY'S WORD NAMES
-- whether the word names a slot of the map's
abbrev pub names_set : Layout → ℕ → Bool
names_set layout word = is_filled word && nat_lt (slot_of word) layout.slots

-- where the content of that slot begins, and how many words behind that it has; word 0 alone in place of none
abbrev pub begin_of : Layout → ℕ → ℕ
begin_of layout word = (if names_set layout word then place_of layout (Content (slot_of word) 0) else 0)

abbrev pub more_of : Layout → ℕ → ℕ
more_of layout word = (if names_set layout word then 2 * layout.rows else 0)

-- two words of it: its first one, and the one eight words on, or its last
abbrev pub two_places : Layout → ℕ → ℕ × ℕ
two_places layout word = (begin_of layout word, begin_of layout word + min 8 (more_of layout word))

-- the words at those two places were loaded, of which the first one was this count
abbrev pub LoadsTwo : ℕ → ℕ → ℕ → Caller → Caller → Type 0
LoadsTwo first second count old new =
    (word : ℕ) × (new ≡ with_loads (load_of first count ∷ load_of second word ∷ []) old)

-- how many lines of eight words a set of so many rows may have beyond two, as far as they are loaded ahead
abbrev pub more_lines : ℕ → ℕ
more_lines rows = min ((rows - 1) / 4) 3

-- a word of each of so many lines beyond two, of a set that begins there and has so many words behind its first one:
-- for a line that it lacks its last word
abbrev pub line_places : ℕ → ℕ → ℕ → List ℕ
line_places begin more zero = []
line_places begin more (suc line) = line_places begin more line ++ (begin + min (8 * (line + 2)) more) ∷ []

-- of the set that this word names, which has so many rows by its first word
abbrev pub further_places : Layout → ℕ × ℕ → List ℕ
further_places layout (word, count) =
    line_places (begin_of layout word) (min (2 * min count layout.rows) (more_of layout word)) (more_lines layout.rows)

abbrev pub both_places : Loaded × Loaded → ℕ × ℕ
both_places (first, second) = (first.place, second.place)

abbrev pub both_loads : Loaded × Loaded → List Loaded
both_loads (first, second) = first ∷ second ∷ []

-- two words were loaded of each set that these words name, whose first words were these counts
pub record LoadsSets (sizes : Layout) (words counts : List ℕ) (old new : Caller) : Type 0 where
  pub loads : List (Loaded × Loaded)
  pub at : map both_places loads ≡ map (two_places sizes) words
  pub counts_are : map (λ (both : Loaded × Loaded). both.0.word) loads ≡ counts
  pub made : new ≡ with_loads (flat_map both_loads loads) old

-- one of each further line of each set
abbrev pub LoadsLines : Layout → List ℕ → List ℕ → Caller → Caller → Type 0
LoadsLines sizes words counts old new = LoadsPlaces (flat_map (further_places sizes) (zip words counts)) old new

-- the one and then the other, of the sets that these words name
abbrev pub LoadsOfSets : Layout → List ℕ → Caller → Caller → Type 0
LoadsOfSets sizes words old new =
    (counts : List ℕ) × (between : Caller) × LoadsSets sizes words counts old between
    × LoadsLines sizes words counts between new

-- THE LOADS AHEAD OF FINDS
-- how many there are for a key that may have so many rows
abbrev pub loads_of_key : ℕ → ℕ
loads_of_key rows = 3 + more_lines rows

-- the words of these keys were loaded, and then words of the sets that these name
pub record LoadsAhead (keys : List ℕ) (old new : Caller) : Type 0 where
  pub words : List ℕ
  pub named : Caller
  pub of_keys : LoadsKeys keys words old named
  pub of_sets : LoadsOfSets (layout old.table.shape) words named new
  pub steps_made : new.steps ≡ old.steps + loads_of_key old.table.shape.rows * length keys

-- where sixteen keys begin, those for the first sixteen of these
abbrev pub LoadsIf : Bool → List ℕ → Caller → Caller → Type 0
LoadsIf true keys old new = LoadsAhead (take 16 keys) old new
LoadsIf false keys old new = new ≡ old

-- the loads before the find of the key at that index, from which on these are left
abbrev pub LoadsAt : ℕ → List ℕ → Caller → Caller → Type 0
LoadsAt place keys old new = LoadsIf (place % 16 == 0) keys old new
