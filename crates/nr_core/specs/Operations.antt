-- The one operation on one word that each event is.
use Rattle.std.specs.Prelude.{List, [], bit_or, false, if◌then◌else◌, length, nat_le, slice_index, slice_set, ℕ, ◌%◌}
use Rattle.std.specs.Prelude.{◌*◌, ◌++◌, ◌+◌, ◌^◌, ◌∷◌}
use Rattle.nr_core.specs.declared.operation.Operation.{Operation}
use Rattle.nr_core.specs.declared.operation.Operation.TheVariants.{Add, Load, Or, Store, Swap}
use Rattle.nr_core.specs.declared.shape.Shape.{Shape}
use Rattle.nr_core.specs.declared.places.Place.{Place}
use Rattle.nr_core.specs.declared.places.Place.TheVariants.{Idle, Reading, Leaving, Withdrawing, Searching, Putting}
use Rattle.nr_core.specs.declared.roles.Desk.{Desk}
use Rattle.nr_words.specs.declared.key_words.TheConstants.{ARRIVE}
use Rattle.nr_words.specs.KeyWords.{hole_word, naming}
use Rattle.nr_words.specs.SetWords.{encode}
use Rattle.nr_core.specs.Slots.{content, departures}
use Rattle.nr_core.specs.States.{Arrive, Ask, Depart, Event, FindAgain, Go, Read, Start, State, hold_of, key_of}
use Rattle.nr_core.specs.States.{number_at, retired_at, slot_in}

-- the word that the operation is on
abbrev pub target_of : Operation → ℕ
target_of (Load place) = place
target_of (Add place amount) = place
target_of (Or place bits) = place
target_of (Store place word) = place
target_of (Swap place word) = place

-- what the operation makes of the word that it finds
abbrev pub becomes : Operation → ℕ → ℕ
becomes (Load place) found = found
becomes (Add place amount) found = (found + amount) % 2 ^ 64
becomes (Or place bits) found = bit_or found bits
becomes (Store place word) found = word
becomes (Swap place word) found = word

-- the words after the operation
abbrev pub operated : List ℕ → Operation → List ℕ
operated words one = slice_set words (target_of one) (becomes one (slice_index words (target_of one)))

-- the words, and the operations that were made on them, oldest first
pub record Memory : Type 0 where
  pub cells : List ℕ
  pub made : List Operation

-- one operation more, on one word
abbrev pub performed : Memory → Operation → Memory
performed memory one = record { cells = operated memory.cells one; made = memory.made ++ one ∷ [] }

-- the next operation of the writer's call at a stage
abbrev pub going : Shape → Desk → Place → Operation
going shape desk Idle = Load 0
going shape desk (Reading call slot got) = Load (content shape slot (length got))
going shape desk (Leaving key) = Swap key (hole_word (number_at desk key) false)
going shape desk (Withdrawing key) = Swap key (hole_word (number_at desk key + 1) false)
going shape desk (Searching call rows poll) = Load (departures shape (retired_at desk poll).slot)
going shape desk (Putting call rows slot departed index) =
    (if nat_le index (2 * length rows) then Store (content shape slot index) (slice_index (encode rows) index) else Swap
    (key_of call) (naming slot departed))

abbrev pub operation : State → Event → Operation
operation state (Arrive reader key) = Add key ARRIVE
operation state (Read reader index) = Load (content state.shape (slot_in (hold_of state reader)) index)
operation state (Depart reader) = Add (departures state.shape (slot_in (hold_of state reader))) 1
operation state (Ask reader key) = Or key 1
operation state (FindAgain reader key) = Load key
operation state (Start call) = Load (key_of call)
operation state Go = going state.shape state.desk state.desk.place
