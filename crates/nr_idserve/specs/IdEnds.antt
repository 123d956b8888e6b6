-- How an upquery ends: its id is filled, or it is withdrawn, or it wasn't open.
use Rattle.std.specs.Prelude.{◌≡◌, ℕ, List, Result, Ok, Err}
use Rattle.nr_model.specs.declared.rows.Row.{Row}
use Rattle.nr_core.specs.declared.calls.NoSlot.{NoSlot}
use Rattle.nr_board.specs.declared.answers.Evict.{Evict}
use Rattle.nr_board.specs.declared.answers.Evict.TheVariants as evict
use Rattle.nr_idmap.specs.declared.upqueries.Unfilled.{Unfilled}
use Rattle.nr_idmap.specs.declared.upqueries.Unfilled.TheVariants as unfilled
use Rattle.nr_idmap.specs.declared.upqueries.Withdrawn.{Withdrawn}
use Rattle.nr_idmap.specs.declared.upqueries.Withdrawn.TheVariants as withdrawn
use Rattle.nr_idmap.specs.IdWrites.{FillsId, WithdrawsId}
use Rattle.nr_idmap.specs.Keepers.{Sent}
use Rattle.nr_serve.specs.declared.turns.Spent.{Spent}
use Rattle.nr_serve.specs.declared.turns.Spent.TheVariants as spent
use Rattle.nr_serve.specs.Counts.{Raises, fails_for, raises_for}
use Rattle.nr_idserve.specs.IdFlows.{IdFlowSeen, group_in}

-- what comes back is the upquery that was given
abbrev pub IsOfSame : Sent → Withdrawn → Type 0
IsOfSame sent (withdrawn.Worn back) = back ≡ sent
IsOfSame sent _ = Unit {0}

-- the upquery's id was to be filled with these rows, which was answered so, and the lobby raised, or not
pub record FillsIdBy (sent : Sent) (rows : List Row) (old new : IdFlowSeen) (answer : Result (Unit {0}) Unfilled) : Type
    0 where
  pub fills : FillsId sent.owed rows old.writer new.writer answer
  pub rest : new ≡ record old { writer = new.writer; guest = new.guest }

abbrev pub RaisesGroup : Sent → IdFlowSeen → IdFlowSeen → Type 0
RaisesGroup sent old new = Raises (raises_for (group_in old sent.owed.id)) old.guest new.guest

-- an upquery is given these rows: it is spent and the lobby raised for its id's group, or there is no slot and it comes
-- back
abbrev pub FillsOneId : Sent → List Row → IdFlowSeen → IdFlowSeen → Result Spent (Sent × NoSlot) → Type 0
FillsOneId sent rows old new (Ok spent.Filled) = FillsIdBy sent rows old new (Ok tt) × RaisesGroup sent old new
FillsOneId sent rows old new (Ok spent.Passed) =
    FillsIdBy sent rows old new (Err unfilled.Closed) × RaisesGroup sent old new
FillsOneId sent rows old new (Ok spent.Failed) = ⊥
FillsOneId sent rows old new (Err (back, counts)) =
    FillsIdBy sent rows old new (Err (unfilled.NoSlot back counts)) × (back ≡ sent) × (new.guest ≡ old.guest)

-- it is withdrawn, which was answered so
pub record WithdrawsIdBy (sent : Sent) (old new : IdFlowSeen) (answer : Withdrawn) : Type 0 where
  pub withdraws : WithdrawsId sent.owed old.writer new.writer answer
  pub rest : new ≡ record old { writer = new.writer; guest = new.guest }

module _ (RaisesIt : Sent → IdFlowSeen → IdFlowSeen → Type 0) where
  -- the lobby is raised where it was, and the upquery comes back where it can't be
  abbrev pub WithdrawsOne : Sent → IdFlowSeen → IdFlowSeen → Result Spent Sent → Type 0
  WithdrawsOne sent old new (Ok spent.Filled) = ⊥
  WithdrawsOne sent old new (Ok spent.Passed) = WithdrawsIdBy sent old new withdrawn.Closed × (new.guest ≡ old.guest)
  WithdrawsOne sent old new (Ok spent.Failed) = WithdrawsIdBy sent old new withdrawn.Done × RaisesIt sent old new
  WithdrawsOne sent old new (Err back) =
      WithdrawsIdBy sent old new (withdrawn.Worn back) × (back ≡ sent) × (new.guest ≡ old.guest)

-- who waits for the id is told that its rows couldn't be had
abbrev pub FailsGroup : Sent → IdFlowSeen → IdFlowSeen → Type 0
FailsGroup sent old new = Raises (fails_for (group_in old sent.owed.id)) old.guest new.guest

abbrev pub FailsOneId : Sent → IdFlowSeen → IdFlowSeen → Result Spent Sent → Type 0
FailsOneId = WithdrawsOne FailsGroup

abbrev pub InvalidatesOneId : Sent → IdFlowSeen → IdFlowSeen → Result Spent Sent → Type 0
InvalidatesOneId = WithdrawsOne RaisesGroup

-- an eviction raises the id's group where it took rows
abbrev pub EvictRaises : Evict → ℕ → IdFlowSeen → IdFlowSeen → Type 0
EvictRaises evict.Evicted id old new = Raises (raises_for (group_in old id)) old.guest new.guest
EvictRaises evict.Nothing id old new = new.guest ≡ old.guest
