-- How often a get by id sleeps. Each sleep but one that timed out ends once its guest has seen the count of the id's
-- group rise, or the lobby closed.
use Rattle.std.specs.Prelude.{◌+◌, ◌-◌, ℕ, List, [], ◌∷◌, length, Option, Result, Ok, Err}
use Rattle.nr_model.specs.declared.rows.Row.{Row}
use Rattle.nr_ids.specs.Tokens.{Granted}
use Rattle.nr_serve.specs.declared.sleepers.TooLate.{TooLate}
use Rattle.nr_serve.specs.Counts.{GuestSeen}
use Rattle.nr_serve.specs.Waits.{SawRaises, if_left, unless_kept}
use Rattle.nr_idserve.specs.declared.answers.GotId.{GotId}
use Rattle.nr_idserve.specs.declared.answers.Missed.{Missed}
use Rattle.nr_idserve.specs.declared.answers.Missed.TheVariants.{Named, NotRequested, Worn}
use Rattle.nr_idserve.specs.declared.hands.IdHands.{IdHands}
use Rattle.nr_idserve.specs.IdGets.{EndsIdLate, GetsId, Getting, MissesAll}

-- the sleeps after one try that found no rows: one where the dataflow is to raise the group, and no claim is kept
abbrev pub sleeps_after : Missed → Option Granted → ℕ
sleeps_after NotRequested kept = 0
sleeps_after Named kept = 0
sleeps_after Worn kept = 0
sleeps_after _ kept = unless_kept kept

-- the sleeps of several tries, of a get of so many, each but after its last
abbrev pub sleeps : (capacity id tries : ℕ) (old new : IdHands) (each : List Missed)
    → MissesAll capacity id old new each → ℕ
sleeps capacity id tries old new [] all = 0
sleeps capacity id tries old new (missed ∷ before) all =
    sleeps capacity id tries old all.0 before all.1
    + if_left (tries - 1 - length before) (sleeps_after missed new.kept)

module _ {Room : Type 0} (shows : Room → List Row → Type 0) where
  -- a get slept after each try that leaves another, where its group was to be raised and no claim was kept
  abbrev pub GetsIdSleeping : Getting → (group : ℕ) → IdHands → Room → GuestSeen → IdHands → Room → GuestSeen
      → Result GotId TooLate → Type 0
  GetsIdSleeping get group old before guest new after guest' (Ok answer) =
      (gets : GetsId shows get old before new after answer)
      × SawRaises group
      (sleeps get.capacity get.id get.tries old gets.between gets.misses.each gets.misses.all) guest guest'
  GetsIdSleeping get group old before guest new after guest' (Err late) =
      (ends : EndsIdLate shows get old before new after)
      × SawRaises group
      (sleeps get.capacity get.id get.tries old ends.last ends.misses.each ends.misses.all) guest guest'
