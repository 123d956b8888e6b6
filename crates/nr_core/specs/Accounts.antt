-- Slot accounting: the one state that each slot is in, and its counts.
use Rattle.std.specs.Prelude.{◌≡◌, ℕ, suc, ◌+◌, ◌<◌, length}
use Rattle.nr_core.specs.declared.places.Hold.{Hold}
use Rattle.nr_core.specs.declared.places.Hold.TheVariants.{Nothing, On}
use Rattle.nr_core.specs.Sums.{total, only}
use Rattle.nr_words.specs.KeyWords.{arrivals_of}
use Rattle.nr_core.specs.Slots.{name_number, named, unused}
use Rattle.nr_core.specs.States.{State, word, retired_at}
use Rattle.nr_core.specs.Roles.{retirements, taken}
use Rattle.nr_core.specs.Core.{Counts}

-- how many readers hold the slot
abbrev pub on : ℕ → Hold → ℕ
on slot Nothing = 0
on slot (On held size) = only slot held

abbrev pub held_by : State → ℕ → ℕ
held_by state slot = total (on slot) state.holds

-- in how many states the slot is: named by a key, free, retired, or taken by the writer's call
abbrev pub places : State → ℕ → ℕ
places state slot =
    named state.shape state.words slot
    + (unused slot state.desk.fresh + retirements slot state.desk.retired + taken slot state.desk.place)

-- each slot is in one state, and named and retired slots are slots of the map; a named or retired slot's arrivals are
-- its departures and holders; a free or taken slot has no holder
pub record Accounted (state : State) : Type 0 where
  pub placed : (slot : ℕ) → slot < state.shape.slots → places state slot ≡ 1
  pub named_in : (at slot : ℕ) → at < state.shape.keys → name_number (word state at) ≡ suc slot
      → slot < state.shape.slots
  pub retired_in : (at : ℕ) → at < length state.desk.retired → (retired_at state.desk at).slot < state.shape.slots
  pub named_count : (at slot : ℕ) → at < state.shape.keys → name_number (word state at) ≡ suc slot
      → Counts state.shape state.words (held_by state) slot (arrivals_of (word state at))
  pub retired_count : (at : ℕ) → at < length state.desk.retired
      → Counts state.shape state.words (held_by state) (retired_at state.desk at).slot
      (retired_at state.desk at).arrivals
  pub unheld : (slot : ℕ) → slot < state.shape.slots → 0 < unused slot state.desk.fresh + taken slot state.desk.place
      → held_by state slot ≡ 0
