-- A whole scan by a search: each reader's word is loaded once, in order, and the writer flags the slots that it doesn't
-- know to be heard.
use Rattle.std.specs.Prelude.{◌≡◌, ℕ, ◌+◌, ◌-◌, ◌<◌, ◌≤◌, ◌==◌, ◌⊎◌, if◌then◌else◌, Bool, true, false, List, ◌++◌}
use Rattle.std.specs.Prelude.{suc, length, nat_lt, slice_index_or, slice_set, Some, None}
use mathlib.Core.Option.{some}
use lib.ListN.{get_elem?}
use Rattle.nr_core.specs.Sums.{only, total}
use Rattle.nr_core.specs.declared.places.Retired.{Retired}
use Rattle.nr_core.specs.Marks.{OfWord, Past, LoggedLoad, with_loads, with_scan}
use Rattle.nr_core.specs.Roles.{retirements}
use Rattle.nr_board.specs.SearchPlays.{scan_base}
use Rattle.nr_board.specs.Views.{View}
use Rattle.nr_board.specs.WordLoads.{WordsSoFar, WordsTell, unsaid}

-- whether the slot's flag is set
abbrev pub is_flagged : List Bool → ℕ → Bool
is_flagged flags slot = slice_index_or flags slot true

abbrev pub misses : List Bool → Retired → ℕ
misses flags entry = (if is_flagged flags entry.slot then 1 else 0)

-- a reader's word flags the slot that it announces
abbrev pub announced : ℕ → List Bool → List Bool
announced found flags = (if found == 0 then flags else slice_set flags (found - 1) true)

-- each retired slot has a flag
abbrev pub AreInside : List Retired → List Bool → Type 0
AreInside retired flags = (at : ℕ) (entry : Retired) → get_elem? retired at ≡ some entry → entry.slot < length flags

-- no retired slot is flagged
abbrev pub NoneFlagged : List Retired → List Bool → Type 0
NoneFlagged retired flags = (slot : ℕ) → 0 < retirements slot retired → is_flagged flags slot ≡ false

-- the slot is retired, and flagged
abbrev pub FlaggedIn : List Retired → List Bool → ℕ → Type 0
FlaggedIn retired flags slot = (0 < retirements slot retired) × (is_flagged flags slot ≡ true)

-- a retired slot is flagged where one of these words says it
abbrev pub FlagsTell : List Retired → List Bool → List ℕ → Type 0
FlagsTell retired flags words =
    (slot : ℕ) → 0 < retirements slot retired → is_flagged flags slot ≡ nat_lt (unsaid slot words) (length words)

-- the noted reader's word said the slot, by a load behind those that were made before
abbrev pub SaidBehind : List LoggedLoad → List LoggedLoad → ℕ → Past → Type 0
SaidBehind before now slot note =
    (at : ℕ) × (get_elem? now (length before + at) ≡ some (OfWord note.reader (suc slot)))

-- the noted reader is one of the first ones; it holds that slot or none, and its word said the slot behind those loads
pub record KeepsOne (readers : ℕ) (before now : List LoggedLoad) (slot : ℕ) (note : Past) : Type 0 where
  pub made : 0 < note.reader
  pub few : note.reader ≤ readers
  pub holds : (note.slot ≡ None) ⊎ (note.slot ≡ Some slot)
  pub said : SaidBehind before now slot note

-- as many readers were noted as retired slots are flagged, each another one, and each flagged slot is kept back by one
pub record KeepBack (retired : List Retired) (flags : List Bool) (readers : ℕ) (before now : List LoggedLoad)
    (notes : List Past) : Type 0 where
  pub many : length notes ≡ total (misses flags) retired
  pub apart : (reader : ℕ) → total (λ (note : Past). only reader note.reader) notes ≤ 1
  pub each : (at : ℕ) (note : Past) → get_elem? notes at ≡ some note
      → (slot : ℕ) × FlaggedIn retired flags slot × KeepsOne readers before now slot note
  pub slots : (slot : ℕ) → FlaggedIn retired flags slot
      → (at : ℕ) × (note : Past) × (get_elem? notes at ≡ some note) × SaidBehind before now slot note

-- the words of the first readers were loaded, and flagged what they say
pub record LoadedTo (retired : List Retired) (before now : View) (flags : List Bool) (own : ℕ) : Type 0 where
  pub rest : now
      ≡ record before {
        steps = before.steps + own;
        marks = with_scan before.marks now.marks.polls now.marks.loads;
        heard = now.heard;
      }
  pub words : WordsSoFar own retired before.shape.slots before.marks.loads now.marks.loads now.heard
  pub flags_tell : FlagsTell retired flags words.words

-- a search's scan after them
pub record ScannedTo (retired : List Retired) (before now : View) (flags : List Bool) (own : ℕ) : Type 0 where
  pub loaded : LoadedTo retired before now flags own
  pub keep : KeepBack retired flags own before.marks.loads now.marks.loads (scan_base own now.marks.polls)

-- the view after those loads between two calls
abbrev pub scanned_to : List LoggedLoad → List ℕ → View → View
scanned_to loads heard view =
    record view {
      steps = view.steps + length loads;
      marks = with_loads view.marks (view.marks.loads ++ loads);
      heard = heard;
    }

-- a scan by a writer between two calls tells it nothing but what it hears
abbrev pub RestsHearing : ℕ → List Retired → View → View → Type 0
RestsHearing readers retired old new =
    (loads : List LoggedLoad) × WordsTell readers retired old.shape.slots loads new.heard
    × (new ≡ scanned_to loads new.heard old)
