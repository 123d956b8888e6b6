-- What a turn of a dataflow by id does: a take, a question to the source, and a fill or a failure, in a row.
use Rattle.std.specs.Prelude.{◌≡◌, ◌⊎◌, ℕ, List, Option, Some, Ok, Err}
use Rattle.nr_model.specs.declared.rows.Row.{Row}
use Rattle.nr_idmap.specs.Keepers.{Sent, id_rows}
use Rattle.nr_idmap.specs.Tags.{IsIdSet}
use Rattle.nr_serve.specs.declared.turns.Spent.{Spent}
use Rattle.nr_serve.specs.declared.turns.Spent.TheVariants as spent
use Rattle.nr_serve.specs.Counts.{OnlyLooks}
use Rattle.nr_idserve.specs.declared.taking.Taken.{Taken}
use Rattle.nr_idserve.specs.declared.taking.Taken.TheVariants as taken
use Rattle.nr_idserve.specs.declared.turns.IdTurn.{IdTurn}
use Rattle.nr_idserve.specs.declared.turns.IdTurn.TheVariants as turn
use Rattle.nr_idserve.specs.IdEnds.{FailsOneId, FillsOneId}
use Rattle.nr_idserve.specs.IdFlows.{IdFlowSeen}
use Rattle.nr_idserve.specs.IdTakes.{Say, TakesById}

-- an upquery that comes back is kept
abbrev pub Keeps : Sent → IdFlowSeen → IdFlowSeen → Type 0
Keeps sent old new = new ≡ record old { kept = Some sent }

-- an upquery is given these rows, and kept where there is no slot
abbrev pub FillsOrKeeps : Sent → List Row → IdFlowSeen → IdFlowSeen → IdTurn → Type 0
FillsOrKeeps sent rows old new (turn.Filled id) = (id ≡ sent.owed.id) × FillsOneId sent rows old new (Ok spent.Filled)
FillsOrKeeps sent rows old new (turn.Passed id) = (id ≡ sent.owed.id) × FillsOneId sent rows old new (Ok spent.Passed)
FillsOrKeeps sent rows old new (turn.Kept counts) =
    (back : IdFlowSeen) × FillsOneId sent rows old back (Err (sent, counts)) × Keeps sent back new
FillsOrKeeps sent rows old new _ = ⊥

-- its rows can't be had, and it is kept where it can't be withdrawn
abbrev pub FailsOrKeeps : Sent → IdFlowSeen → IdFlowSeen → IdTurn → Type 0
FailsOrKeeps sent old new (turn.Failed id) = (id ≡ sent.owed.id) × (said : Spent) × FailsOneId sent old new (Ok said)
FailsOrKeeps sent old new (turn.Worn id) =
    (id ≡ sent.owed.id) × (back : IdFlowSeen) × FailsOneId sent old back (Err sent) × Keeps sent back new
FailsOrKeeps sent old new _ = ⊥

-- the dataflow sleeps where its turn was idle
abbrev pub SleepsIfIdle : IdTurn → IdFlowSeen → IdFlowSeen → Type 0
SleepsIfIdle turn.Idle old new = OnlyLooks old.guest new.guest × (new ≡ record old { guest = new.guest })
SleepsIfIdle _ old new = new ≡ old

module _ {S : Type 0} (gives : S → (id bound : ℕ) → List Row → S → Type 0)
    (fails : S → (id bound : ℕ) → S → Type 0) where
  -- the source, told how many rows an id may have, gives those that the upquery is filled with; or it fails
  abbrev pub AnswersAsked : Sent → IdFlowSeen → S → IdFlowSeen → S → IdTurn → Type 0
  AnswersAsked sent old before new after turned =
      ((rows : List Row) × IsIdSet (id_rows old.map) rows × gives before sent.owed.id (id_rows old.map) rows after
      × FillsOrKeeps sent rows old new turned)
      ⊎ (fails before sent.owed.id (id_rows old.map) after × FailsOrKeeps sent old new turned)

  -- an upquery that was taken is answered; without one the source isn't asked
  abbrev pub AnswersTaken : Taken → IdFlowSeen → S → IdFlowSeen → S → IdTurn → Type 0
  AnswersTaken (taken.Asked sent) old before new after turned = AnswersAsked sent old before new after turned
  AnswersTaken (taken.Passed id) old before new after turned =
      (turned ≡ turn.Passed id) × (new ≡ old) × (after ≡ before)
  AnswersTaken (taken.Full id) old before new after turned = (turned ≡ turn.Full id) × (new ≡ old) × (after ≡ before)
  AnswersTaken taken.Idle old before new after turned = (turned ≡ turn.Idle) × (new ≡ old) × (after ≡ before)

  abbrev pub TurnsById : Option Say → IdFlowSeen → S → IdFlowSeen → S → IdTurn → Type 0
  TurnsById said old before new after turned =
      (found : Taken) × (mid : IdFlowSeen) × TakesById said old mid found
      × AnswersTaken found mid before new after turned

  -- the bell is read before the turn
  abbrev pub TurnsOrSleeps : Option Say → IdFlowSeen → S → IdFlowSeen → S → IdTurn → Type 0
  TurnsOrSleeps said old before new after turned =
      (rung mid : IdFlowSeen) × OnlyLooks old.guest rung.guest × (rung ≡ record old { guest = rung.guest })
      × TurnsById said rung before mid after turned × SleepsIfIdle turned mid new
