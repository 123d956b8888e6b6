-- What the writer and a reader learn of each other when they meet.
use Rattle.std.specs.Prelude.{◌≡◌, ℕ, suc, ◌<◌, ◌≤◌, ◌⊎◌, false, List, length, slice_index, Some}
use mathlib.Core.Option.{some}
use lib.ListN.{get_elem?}
use Rattle.nr_core.specs.declared.roles.Grip.{Grip}
use Rattle.nr_core.specs.declared.places.Retired.{Retired}
use Rattle.nr_core.specs.Marks.{Past, Marks, gripped, is_reaped}

-- the slot is named or retired, as the writer's lists say
abbrev pub Living : List Retired → Marks → ℕ → Type 0
Living retired marks slot =
    ((key : ℕ) × (key < length marks.names) × (slice_index marks.names key ≡ suc slot))
    ⊎ ((at : ℕ) × (entry : Retired) × (get_elem? retired at ≡ some entry) × (entry.slot ≡ slot))

-- a reader as it was when the writer compared it with its lists: its slot is named or retired and has its put number,
-- and the set there was not reaped; where it has made no act since a poll noted it, it holds the noted slot
pub record Current (retired : List Retired) (marks : Marks) (reader : Past) : Type 0 where
  pub placed : (slot : ℕ) → reader.slot ≡ Some slot
      → (slice_index marks.puts slot ≡ reader.put) × Living retired marks slot
  pub kept : (slot : ℕ) → reader.slot ≡ Some slot → is_reaped marks slot ≡ false
  pub polled : (at : ℕ) (poll : Past) → get_elem? marks.polls at ≡ some poll → poll.reader ≡ reader.reader
      → (poll.count ≤ reader.count) × (reader.count ≡ poll.count → reader.slot ≡ poll.slot)

-- for each reader that was told of, how it is now
pub record Refreshed (retired : List Retired) (marks : Marks) (told news : List Past) : Type 0 where
  pub newer : (at : ℕ) (old : Past) → get_elem? told at ≡ some old
      → (new : Past) × (get_elem? news at ≡ some new) × (new.reader ≡ old.reader) × (old.count ≤ new.count)
  pub current : (at : ℕ) (new : Past) → get_elem? news at ≡ some new → Current retired marks new

-- what a reader learns of what it was told of itself
abbrev pub Compared : ℕ → Grip → Marks → List Past → Type 0
Compared reader grip marks told =
    (at : ℕ) (old : Past) → get_elem? told at ≡ some old → old.reader ≡ reader
    → (old.count ≤ marks.acts) × (marks.acts ≡ old.count → (gripped grip ≡ old.slot) × (marks.put ≡ old.put))

-- all readers, as their tokens show them
abbrev pub AllReaders : ℕ → List Past → Type 0
AllReaders count readers =
    (reader : ℕ) → 0 < reader → reader ≤ count
    → (at : ℕ) × (one : Past) × (get_elem? readers at ≡ some one) × (one.reader ≡ reader)

-- each is known so
abbrev pub AllKnown : List Past → List Past → Type 0
AllKnown known readers =
    (at : ℕ) (one : Past) → get_elem? readers at ≡ some one → (place : ℕ) × (get_elem? known place ≡ some one)

-- the writer compared each with its lists
abbrev pub AllCurrent : List Retired → Marks → List Past → Type 0
AllCurrent retired marks readers = (at : ℕ) (one : Past) → get_elem? readers at ≡ some one → Current retired marks one
