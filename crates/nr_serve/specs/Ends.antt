-- How a trigger that was taken ends: its key is filled, or needs no fill, or its request is taken back.
use Rattle.std.specs.Prelude.{◌≡◌, ◌≢◌, ◌⊎◌, ℕ, List, slice_index, Result, Ok, Err}
use Rattle.nr_model.specs.declared.rows.Row.{Row}
use Rattle.nr_core.specs.declared.calls.NoSlot.{NoSlot}
use Rattle.nr_board.specs.declared.answers.Cancel.{Cancel}
use Rattle.nr_board.specs.declared.answers.Cancel.TheVariants as cancel
use Rattle.nr_board.specs.declared.answers.FillFault.{FillFault}
use Rattle.nr_board.specs.declared.answers.FillFault.TheVariants as fill
use Rattle.nr_board.specs.Callers.{Caller}
use Rattle.nr_board.specs.WriterAnswers.{CancelsKey, FillsKey}
use Rattle.nr_trigger.specs.declared.post.Post.{Post}
use Rattle.nr_trigger.specs.declared.post.Upquery.{Upquery}
use Rattle.nr_serve.specs.declared.turns.Spent.{Spent}
use Rattle.nr_serve.specs.declared.turns.Spent.TheVariants as spent
use Rattle.nr_serve.specs.Counts.{GuestSeen, OnlyLooks, Raises, fails_for, raises_for}
use Rattle.nr_serve.specs.Flows.{FlowSeen}

-- the key is filled, or isn't asked for, or not by the trigger's request
abbrev pub IsPast : FillFault → Type 0
IsPast (fill.NoSlot counts) = ⊥
IsPast _ = Unit {0}

-- the trigger's key was to be filled by its ticket number with these rows, which was answered so
pub record FillsBy {S : Type 0} (post : Post) (rows : List Row) (old new : FlowSeen S)
    (answer : Result (Unit {0}) FillFault) : Type 0 where
  pub fills : FillsKey post.upquery.key post.upquery.number rows old.writer new.writer answer
  pub rest : new ≡ record old { writer = new.writer; guest = new.guest }

-- a trigger is given these rows: it is spent and the lobby raised for its key, or there is no slot and it comes back
abbrev pub FillsOne : {S : Type 0} → Post → List Row → FlowSeen S → FlowSeen S → Result Spent (Post × NoSlot) → Type 0
FillsOne post rows old new (Ok spent.Filled) =
    FillsBy post rows old new (Ok tt) × Raises (raises_for post.upquery.key) old.guest new.guest
FillsOne post rows old new (Ok spent.Passed) =
    (fault : FillFault) × IsPast fault × FillsBy post rows old new (Err fault)
    × Raises (raises_for post.upquery.key) old.guest new.guest
FillsOne post rows old new (Ok spent.Failed) = ⊥
FillsOne post rows old new (Err (back, counts)) =
    FillsBy post rows old new (Err (fill.NoSlot counts)) × (back ≡ post) × (new.guest ≡ old.guest)

-- the key's request is cancelled if it has that ticket number, and else left alone
abbrev pub TakesBack : Upquery → Caller → Caller → Cancel → Type 0
TakesBack upquery old new cancel.Cancelled =
    (slice_index old.numbers upquery.key ≡ upquery.number) × CancelsKey upquery.key old new cancel.Cancelled
TakesBack upquery old new cancel.Nothing =
    ((slice_index old.numbers upquery.key ≢ upquery.number) × (new ≡ old))
    ⊎ CancelsKey upquery.key old new cancel.Nothing
TakesBack upquery old new cancel.Worn =
    (slice_index old.numbers upquery.key ≡ upquery.number) × CancelsKey upquery.key old new cancel.Worn

-- a request that is taken back for want of rows is told to who waits for the key
abbrev pub FailRaises : Cancel → ℕ → GuestSeen → GuestSeen → Type 0
FailRaises cancel.Cancelled key old new = Raises (fails_for key) old new
FailRaises _ key old new = OnlyLooks old new

-- the rows of a trigger can't be had, and its request is taken back, if it still stands and can be
pub record FailsBy {S : Type 0} (post : Post) (old new : FlowSeen S) (answer : Cancel) : Type 0 where
  pub takes_back : TakesBack post.upquery old.writer new.writer answer
  pub raised : FailRaises answer post.upquery.key old.guest new.guest
  pub rest : new ≡ record old { writer = new.writer; guest = new.guest }

-- it is spent then, or comes back where the request can't be taken back
abbrev pub FailsOne : {S : Type 0} → Post → FlowSeen S → FlowSeen S → Result Spent Post → Type 0
FailsOne post old new (Ok spent.Filled) = ⊥
FailsOne post old new (Ok spent.Passed) = FailsBy post old new cancel.Nothing
FailsOne post old new (Ok spent.Failed) = FailsBy post old new cancel.Cancelled
FailsOne post old new (Err back) = FailsBy post old new cancel.Worn × (back ≡ post)
