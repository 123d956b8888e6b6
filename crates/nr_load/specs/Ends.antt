-- All threads of a load are joined.
use Rattle.std.specs.Prelude.{◌≡◌, ◌==◌, ℕ, Bool, List, length, true, if◌then◌else◌, Option, None, Some}
use Rattle.nr_board.specs.Callers.{Caller, Table}
use Rattle.nr_map.specs.Opened.{IsOpened}
use Rattle.nr_trigger.specs.Tokens.{TakerSeen}
use Rattle.nr_load.specs.declared.fault.LoadFault.{LoadFault}
use Rattle.nr_load.specs.declared.fault.LoadFault.TheVariants as faults
use Rattle.nr_load.specs.declared.threads.Joined.{Joined}
use Rattle.nr_load.specs.declared.threads.Tokens.{Tokens}
use Rattle.nr_load.specs.Faults.{earlier}
use Rattle.nr_load.specs.Flowed.{Flows}
use Rattle.nr_load.specs.Outcomes.{ServesFirst, earliest, made_in}

-- what the threads gave back that had these tokens
pub record Joins (seed gets : ℕ) (tokens : Tokens) (joined : Joined) : Type 0 where
  pub served : ServesFirst seed gets tokens.readers.items joined.outcomes.items
  pub whole : joined.is_whole ≡ true → length joined.outcomes.items ≡ length tokens.readers.items
  pub flowed : Flows tokens.writer tokens.taker joined.flowed

-- the threads had the tokens of a new map, each its own
pub record Ended (map : Table) (seed gets : ℕ) (joined : Joined) : Type 0 where
  pub writer : Caller
  pub taker : TakerSeen
  pub readers : List Caller
  pub opened : IsOpened map.shape 0 map writer readers
  pub served : ServesFirst seed gets readers joined.outcomes.items
  pub whole : joined.is_whole ≡ true → length joined.outcomes.items ≡ length readers
  pub flowed : Flows writer taker joined.flowed

-- of these faults, of a refused thread and of gets that were not all made the first named
abbrev pub first_of : Option LoadFault → Option LoadFault → (is_whole is_all : Bool) → Option LoadFault
first_of one other is_whole is_all =
    earlier (earlier (earlier one other) (if is_whole then None else Some faults.Thread))
    (if is_all then None else Some faults.WrongRows)

-- the fault that is told of a load that was to make that many gets
abbrev pub fault_told : ℕ → Joined → Option LoadFault
fault_told gets joined =
    first_of (earliest None joined.outcomes.items) joined.flowed.fault joined.is_whole
    (made_in joined.outcomes.items == gets)
