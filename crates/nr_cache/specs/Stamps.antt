-- The stamps of values, and a choice of one that is below a bound.
use Rattle.std.specs.Prelude.{◌≡◌, ◌≢◌, ◌+◌, ◌<◌, ◌≤◌, ◌⊎◌, ℕ, false, if◌then◌else◌, nat_lt, List, [], ◌∷◌}
use Rattle.nr_model.specs.declared.rows.Row.{Row}
use Rattle.nr_model.specs.declared.calls.Call.TheVariants.{Find}
use Rattle.nr_model.specs.declared.calls.Reply.{Reply}
use Rattle.nr_model.specs.declared.states.KeyState.{KeyState}
use Rattle.nr_model.specs.declared.states.KeyState.TheVariants.{Hole, Asked, Rows}
use Rattle.nr_model.specs.Histories.{is_done}
use Rattle.nr_board.specs.Callers.{Gains}
use Rattle.nr_board.specs.WriterAnswers.{SlotsStay}
use Rattle.nr_idmap.specs.IdChoices.{StaysButClerk}
use Rattle.nr_idmap.specs.Keepers.{Keeper, OwesSame, state_at}

-- the stamp of the first of a value's rows, and of a set that has the tag before them; 0 where there is none
abbrev pub first_stamp : List Row → ℕ
first_stamp [] = 0
first_stamp (row ∷ rows) = row.a

abbrev pub stamp_behind : List Row → ℕ
stamp_behind [] = 0
stamp_behind (tag ∷ rows) = first_stamp rows

abbrev pub stamp_of : KeyState → ℕ
stamp_of (Hole number) = 0
stamp_of (Asked number) = 0
stamp_of (Rows number set) = stamp_behind set

-- that of a way's value, in all that the writer has seen
abbrev pub stamp_at : Keeper → ℕ → ℕ
stamp_at keeper way = stamp_of (state_at keeper way)

-- a value has it, and it is below the bound
abbrev pub IsStale : ℕ → ℕ → Type 0
IsStale bound stamp = (0 < stamp) × (stamp < bound)

-- of the next eight ways from the hand on none but the newcomer's has a stale value
abbrev pub NoneIsStale : ℕ → ℕ → ℕ → Keeper → Type 0
NoneIsStale hand bound taken keeper =
    (way : ℕ) → hand ≤ way → way < hand + 8 → way < keeper.table.map.shape.keys → way ≢ taken
    → IsStale bound (stamp_at keeper way) → ⊥

-- the way's is the first of them that is
pub record IsFirstStale (hand bound taken : ℕ) (keeper : Keeper) (way : ℕ) : Type 0 where
  pub from : hand ≤ way
  pub near : way < hand + 8
  pub inside : way < keeper.table.map.shape.keys
  pub other : way ≢ taken
  pub stale : IsStale bound (stamp_at keeper way)
  pub first : (before : ℕ) → hand ≤ before → before < way → before ≢ taken → IsStale bound (stamp_at keeper before) → ⊥

-- the way that comes so many after this one, or the first
abbrev pub way_after : ℕ → ℕ → ℕ → ℕ
way_after way count ways = if nat_lt (way + count) ways then way + count else 0

-- the first stale value's way goes, and the hand stays; or none is stale, and the hand goes on by the eight ways
abbrev pub GoesNext : ℕ → ℕ → ℕ → ℕ → ℕ → Keeper → Type 0
GoesNext bound taken hand hand' way keeper =
    (IsFirstStale hand bound taken keeper way × (hand' ≡ hand))
    ⊎ (NoneIsStale hand bound taken keeper × (hand' ≡ way_after hand 8 keeper.table.map.shape.keys))

-- the writer looked at ways, at their values each by a find of its own, and else nothing happened
pub data LooksAround : Keeper → Keeper → Type 0 where
  Stays : (old new : Keeper) → StaysButClerk old new → LooksAround old new
  Finds : (steps way : ℕ) (answer : Reply) (old mid new : Keeper) → LooksAround old mid → is_done answer ≡ false
      → Gains steps (Find way) mid.writer new.writer answer → SlotsStay mid.writer new.writer → new.asker ≡ mid.asker
      → OwesSame mid new → LooksAround old new
  ThenStays : (old mid new : Keeper) → LooksAround old mid → StaysButClerk mid new → LooksAround old new
