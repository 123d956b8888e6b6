-- Holds by words. A reader may have a word of its own, which announces a slot; a hold by that word is counted nowhere.
-- For the core it is an arrival like any other: the core sees each slot's departures less by the holds by words.
use Rattle.std.specs.Prelude.{◌≡◌, ◌≢◌, ℕ, suc, ◌+◌, ◌-◌, ◌*◌, ◌%◌, ◌^◌, ◌<◌, ◌≤◌, if◌then◌else◌, nat_lt, true, false}
use Rattle.std.specs.Prelude.{List, length, slice_index, slice_set}
use mathlib.Core.Option.{some}
use lib.ListN.{get_elem?}
use Rattle.nr_words.specs.Places.{total_of}
use Rattle.nr_core.specs.declared.shape.Shape.{Shape}
use Rattle.nr_core.specs.Slots.{departures, layout}
use Rattle.nr_core.specs.Sums.{total}
use Rattle.nr_core.specs.States.{retired_at}
use Rattle.nr_core.specs.declared.roles.Desk.{Desk}
use Rattle.nr_core.specs.declared.places.Place.{Place}
use Rattle.nr_core.specs.declared.places.Place.TheVariants.{Putting, Searching}
use Rattle.nr_core.specs.declared.roles.Role.{Role}
use Rattle.nr_core.specs.declared.roles.Role.TheVariants.{Writer}
use Rattle.nr_core.specs.Roles.{holds, is_by}
use Rattle.nr_board.specs.Views.{View}

-- where a reader's word lies. Processors load cache lines by pairs, and those that follow: so the word has a pair of
-- its own, far behind what others read
abbrev pub says_at : Shape → ℕ → ℕ
says_at shape own = total_of (layout shape) + 16 * own + 271

-- how many words that takes of so many readers
abbrev pub own_words : ℕ → ℕ
own_words announcers = 16 * announcers + 256

-- 1 where the token holds the slot by its word; how many tokens do
abbrev pub lends : ℕ → View → ℕ
lends slot view = (if nat_lt 0 view.says then holds slot view.role else 0)

abbrev pub lent : List View → ℕ → ℕ
lent views slot = total (lends slot) views

-- no departures stand there
abbrev pub IsNoCount : Shape → ℕ → Type 0
IsNoCount shape at = (slot : ℕ) → slot < shape.slots → at ≢ departures shape slot

-- the words, and those that the core sees, where that many hold each slot by their words
pub record Counted (shape : Shape) (by_word : ℕ → ℕ) (words counted : List ℕ) : Type 0 where
  pub room : total_of (layout shape) ≤ length words
  pub same : (at : ℕ) → at < total_of (layout shape) → IsNoCount shape at
      → slice_index counted at ≡ slice_index words at
  pub less : (slot : ℕ) → slot < shape.slots
      → slice_index counted (departures shape slot)
      ≡ (slice_index words (departures shape slot) + (2 ^ 64 - by_word slot)) % 2 ^ 64
  pub small : (slot : ℕ) → slot < shape.slots → slice_index words (departures shape slot) < 2 ^ 64

-- none of the tokens is that reader
abbrev pub HasNoReader : ℕ → List View → Type 0
HasNoReader own views = (id : ℕ) (view : View) → get_elem? views id ≡ some view → is_by (suc own) view.role ≡ false

-- what the readers' words say, of which that many have one
pub record Announces (shape : Shape) (announcers : ℕ) (words : List ℕ) (views : List View) : Type 0 where
  pub space : total_of (layout shape) + own_words announcers ≤ length words
  -- a reader's word is what its token says; who has none says nothing
  pub says : (id own : ℕ) (view : View) → get_elem? views id ≡ some view → is_by (suc own) view.role ≡ true
      → own < announcers → slice_index words (says_at shape own) ≡ view.says
  pub wordless : (id : ℕ) (view : View) → get_elem? views id ≡ some view
      → ((own : ℕ) → own < announcers → is_by (suc own) view.role ≡ false) → view.says ≡ 0
  -- who announces a slot holds that slot or none
  pub holds_it : (id slot : ℕ) (view : View) → get_elem? views id ≡ some view → 0 < view.says → 0 < holds slot view.role
      → view.says ≡ suc slot
  -- a reader that is not made yet says nothing
  pub unsaid : (own : ℕ) → HasNoReader own views → own < announcers → slice_index words (says_at shape own) ≡ 0

-- WHAT THE WRITER HEARS

-- what was heard of a slot is forgotten where a call puts a set into it
abbrev pub heard_at : Place → List ℕ → List ℕ
heard_at (Putting call rows mine departed index) heard = slice_set heard mine 0
heard_at other heard = heard

-- by a step of that caller's
abbrev pub heard_after : Role → List ℕ → List ℕ
heard_after (Writer desk) heard = heard_at desk.place heard
heard_after other heard = heard

-- a poll is of a slot of which all readers that have a word were heard
abbrev pub PollsHeard : ℕ → Desk → List ℕ → Place → Type 0
PollsHeard announcers desk heard (Searching call rows poll) = announcers ≤ slice_index heard (retired_at desk poll).slot
PollsHeard announcers desk heard other = Unit {0}

-- what the writer has heard is so
pub record Hears (views : List View) (writer : View) : Type 0 where
  -- the readers that were heard don't hold the slot by their words
  pub quiet : (id slot own : ℕ) (view : View) → get_elem? views id ≡ some view → is_by (suc own) view.role ≡ true
      → own < slice_index writer.heard slot → lends slot view ≡ 0
  -- of a slot that a key names nothing is heard
  pub unheard : (key slot : ℕ) → slice_index writer.marks.names key ≡ suc slot → slice_index writer.heard slot ≡ 0
