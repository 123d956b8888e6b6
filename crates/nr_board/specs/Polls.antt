-- What the notes of a search say: which readers kept its slots from the writer.
use Rattle.std.specs.Prelude.{◌≡◌, ℕ, suc, ◌+◌, ◌<◌, ◌≤◌, ◌⊎◌, List, Some}
use mathlib.Core.Option.{some}
use lib.ListN.{get_elem?}
use Rattle.nr_model.specs.Histories.{Entry, entries_of}
use Rattle.nr_core.specs.Marks.{LoggedLoad, OfWord, Past}
use Rattle.nr_core.specs.Roles.{retirements}
use Rattle.nr_core.specs.declared.places.Retired.{Retired}
use Rattle.nr_board.specs.Entries.{acts_told}
use Rattle.nr_board.specs.Rule.{StartsWith}

-- The noted reader held this slot at a poll between the two histories: by the history at the poll it had arrived at
-- each of its finds, and had departed from each set that it found but one. That many acts it had made.
pub record HeldThen (before after : List Entry) (slot : ℕ) (note : Past) : Type 0 where
  pub log : List Entry
  pub since : StartsWith log before
  pub until : StartsWith after log
  pub holds : note.slot ≡ Some slot
  pub count : note.count + 1 ≡ acts_told (entries_of log note.reader)

-- the noted reader's word said this slot, when it was loaded
abbrev pub SaidThen : List LoggedLoad → ℕ → Past → Type 0
SaidThen loads slot note = (at : ℕ) × (get_elem? loads at ≡ some (OfWord note.reader (suc slot)))

abbrev pub KeptThen : List Entry → List Entry → List LoggedLoad → ℕ → Past → Type 0
KeptThen before after loads slot note = HeldThen before after slot note ⊎ SaidThen loads slot note

-- Each retired slot was kept from the writer by a noted reader, and each noted reader, which the map has, kept one.
pub record KeptBack (readers : ℕ) (before after : List Entry) (loads : List LoggedLoad) (retired : List Retired)
    (notes : List Past) : Type 0 where
  pub slots : (slot : ℕ) → 0 < retirements slot retired
      → (at : ℕ) × (note : Past) × (get_elem? notes at ≡ some note) × KeptThen before after loads slot note
  pub keepers : (at : ℕ) (note : Past) → get_elem? notes at ≡ some note
      → (slot : ℕ) × (0 < retirements slot retired) × KeptThen before after loads slot note
  pub range : (at : ℕ) (note : Past) → get_elem? notes at ≡ some note → (0 < note.reader) × (note.reader ≤ readers)
