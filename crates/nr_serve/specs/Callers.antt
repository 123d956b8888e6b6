-- What several calls of a reader add to what it knows.
use Rattle.std.specs.Prelude.{◌≡◌, ℕ, ◌+◌, ◌⊎◌, List, ◌++◌}
use Rattle.nr_model.specs.Histories.{Entry}
use Rattle.nr_board.specs.Callers.{Caller, IsSound}
use Rattle.nr_board.specs.Rule.{StartsWith}

-- in that many steps the caller made these calls and no others; what it has seen begins with all that it had seen, and
-- is a sound history, where it isn't still what it was
pub record Makes (steps : ℕ) (entries : List Entry) (old new : Caller) : Type 0 where
  pub table : new.table ≡ old.table
  pub number : new.number ≡ old.number
  pub seen : StartsWith new.seen old.seen
  pub mine : new.mine ≡ old.mine ++ entries
  pub steps_made : new.steps ≡ old.steps + steps
  pub sound : ((new.seen ≡ old.seen) × (new.mine ≡ old.mine)) ⊎ IsSound new
