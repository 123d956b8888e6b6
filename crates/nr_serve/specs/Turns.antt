-- What a turn of the dataflow does.
use Rattle.std.specs.Prelude.{◌≡◌, ◌<◌, ◌≤◌, ℕ, List, [], ◌∷◌, ◌++◌, length, Option, None, Some, Result, Ok, Err}
use Rattle.nr_model.specs.declared.rows.Row.{Row}
use Rattle.nr_board.specs.declared.answers.Cancel.{Cancel}
use Rattle.nr_board.specs.declared.answers.Cancel.TheVariants as cancel
use Rattle.nr_board.specs.declared.answers.FillFault.{FillFault}
use Rattle.nr_board.specs.declared.answers.FillFault.TheVariants as fill
use Rattle.nr_board.specs.WriterAnswers.{FillsKey}
use Rattle.nr_trigger.specs.declared.post.Post.{Post}
use Rattle.nr_trigger.specs.Tokens.{IsSameTaker, TakerSeen, WasEmpty, taker_tried}
use Rattle.nr_serve.specs.declared.source.SourceFault.{SourceFault}
use Rattle.nr_serve.specs.declared.try_turns.TryTurn.{TryTurn}
use Rattle.nr_serve.specs.declared.try_turns.TryTurn.TheVariants as try_turn
use Rattle.nr_serve.specs.declared.turns.Turn.{Turn}
use Rattle.nr_serve.specs.declared.turns.Turn.TheVariants as turn
use Rattle.nr_serve.specs.Counts.{GuestSeen, OnlyLooks, Raises, raises_for}
use Rattle.nr_serve.specs.Ends.{FailRaises, FailsBy, IsPast, TakesBack}
use Rattle.nr_serve.specs.Flows.{FlowSeen}
use Rattle.nr_serve.specs.Sources.{FailsNever}

-- the triggers that are kept, one at most
abbrev pub kept_posts : Option Post → List Post
kept_posts None = []
kept_posts (Some post) = post ∷ []

-- no trigger is lost: the one kept before, and then those that were taken, are those that were spent, and then the one
-- kept after
pub record Spends (spent : List Post) (old : TakerSeen) (before : Option Post) (new : TakerSeen)
    (after : Option Post) : Type 0 where
  pub same : IsSameTaker old new
  pub gain : List Post
  pub taken : new.taken ≡ old.taken ++ gain
  pub all : kept_posts before ++ gain ≡ spent ++ kept_posts after

-- the trigger that is kept, or else the next one of the queue, if there is any
pub record Takes {S : Type 0} (old new : FlowSeen S) (post : Post) : Type 0 where
  pub near : post.upquery.key < old.map.shape.keys
  pub spends : Spends [] old.taker old.kept new.taker (Some post)
  pub rest : new ≡ record old { taker = new.taker; kept = None }

-- none is kept, and one attempt to take finds none
abbrev pub FindsNone : {S : Type 0} → FlowSeen S → FlowSeen S → Type 0
FindsNone old new =
    (old.kept ≡ None) × WasEmpty old.taker × (new ≡ record old { taker = taker_tried old.taker; guest = new.guest })
    × OnlyLooks old.guest new.guest

-- just one attempt to take was made between these two, and it found none
abbrev pub AwaitsPost : TakerSeen → TakerSeen → Type 0
AwaitsPost old new = WasEmpty old × (new ≡ taker_tried old)

abbrev pub Nexts : {S : Type 0} → FlowSeen S → FlowSeen S → Option Post → Type 0
Nexts old new None = FindsNone old new
Nexts old new (Some post) = Takes old new post

module _ {S : Type 0} (gives : S → (key bound : ℕ) → List Row → S → Type 0) where
  -- one fill of the trigger's key, by its number, with rows that the source gave in this turn, told the map's bound on
  -- them
  pub record FillsPost (post : Post) (old new : FlowSeen S) (answer : Result (Unit {0}) FillFault) : Type 0 where
    pub rows : List Row
    pub gave : gives old.source post.upquery.key old.map.shape.rows rows new.source
    pub few : length rows ≤ old.map.shape.rows
    pub fills : FillsKey post.upquery.key post.upquery.number rows old.writer new.writer answer

  -- the trigger of that key, which is one of the map's, is spent, none is kept, and the lobby is raised for the key
  pub record SpendsOne (key : ℕ) (old new : FlowSeen S) (answer : Result (Unit {0}) FillFault) : Type 0 where
    pub near : key < old.map.shape.keys
    pub post : Post
    pub key_is : post.upquery.key ≡ key
    pub answers : FillsPost post old new answer
    pub spends : Spends (post ∷ []) old.taker old.kept new.taker None
    pub none : new.kept ≡ None
    pub raised : Raises (raises_for key) old.guest new.guest

  -- the trigger is kept, and the lobby is left alone
  pub record KeepsOne (old new : FlowSeen S) (answer : Result (Unit {0}) FillFault) : Type 0 where
    pub post : Post
    pub answers : FillsPost post old new answer
    pub spends : Spends [] old.taker old.kept new.taker (Some post)
    pub kept : new.kept ≡ Some post
    pub raised : OnlyLooks old.guest new.guest

-- the request of a key is taken back, or stood no more
abbrev pub IsOver : Cancel → Type 0
IsOver cancel.Worn = ⊥
IsOver _ = Unit {0}

module _ {S : Type 0} (fails : S → (key bound : ℕ) → S → Type 0) where
  -- the source, told the map's bound, failed for the trigger's key, and the trigger's own request is taken back, if it
  -- still stands and can be; who waits for the key is told
  pub record FailsPost (post : Post) (old new : FlowSeen S) (answer : Cancel) : Type 0 where
    pub failed : fails old.source post.upquery.key old.map.shape.rows new.source
    pub takes_back : TakesBack post.upquery old.writer new.writer answer
    pub raised : FailRaises answer post.upquery.key old.guest new.guest

  -- the trigger of that key, which is one of the map's, is spent without a fill, and none is kept
  pub record GivesUp (key : ℕ) (old new : FlowSeen S) : Type 0 where
    pub near : key < old.map.shape.keys
    pub post : Post
    pub key_is : post.upquery.key ≡ key
    pub answer : Cancel
    pub over : IsOver answer
    pub ends : FailsPost post old new answer
    pub spends : Spends (post ∷ []) old.taker old.kept new.taker None
    pub none : new.kept ≡ None

  -- its request can't be taken back, and the trigger is kept
  pub record KeepsWorn (key : ℕ) (old new : FlowSeen S) : Type 0 where
    pub post : Post
    pub key_is : post.upquery.key ≡ key
    pub ends : FailsPost post old new cancel.Worn
    pub spends : Spends [] old.taker old.kept new.taker (Some post)
    pub kept : new.kept ≡ Some post

module _ {S : Type 0} (gives : S → (key bound : ℕ) → List Row → S → Type 0)
    (fails : S → (key bound : ℕ) → S → Type 0) where
  abbrev pub TurnsOrFails : FlowSeen S → FlowSeen S → TryTurn → Type 0
  TurnsOrFails old new try_turn.Idle = FindsNone old new
  TurnsOrFails old new (try_turn.Filled key) = SpendsOne gives key old new (Ok tt)
  TurnsOrFails old new (try_turn.Passed key) =
      (fault : FillFault) × IsPast fault × SpendsOne gives key old new (Err fault)
  TurnsOrFails old new (try_turn.Failed key) = GivesUp fails key old new
  TurnsOrFails old new (try_turn.Kept counts) = KeepsOne gives old new (Err (fill.NoSlot counts))
  TurnsOrFails old new (try_turn.Worn key) = KeepsWorn fails key old new

  -- the source is asked for the rows of a trigger, which its key is filled with; or it fails
  abbrev pub AsksSource : Post → FlowSeen S → FlowSeen S → Result (Result (Unit {0}) FillFault) SourceFault → Type 0
  AsksSource post old new (Ok answer) = FillsPost gives post old new answer
  AsksSource post old new (Err fault) =
      fails old.source post.upquery.key old.map.shape.rows new.source × (new.writer ≡ old.writer)

-- a turn as one over a source that may fail
abbrev pub tried : Turn → TryTurn
tried turn.Idle = try_turn.Idle
tried (turn.Filled key) = try_turn.Filled key
tried (turn.Passed key) = try_turn.Passed key
tried (turn.Kept counts) = try_turn.Kept counts

-- a turn over a source that never fails
abbrev pub Turns : {S : Type 0} → (S → (key bound : ℕ) → List Row → S → Type 0) → FlowSeen S → FlowSeen S → Turn
    → Type 0
Turns gives old new turned = TurnsOrFails gives FailsNever old new (tried turned)

-- a turn goes on with a trigger for whose key the source failed
abbrev pub TurnsFailed : {S : Type 0} → Post → FlowSeen S → FlowSeen S → TryTurn → Type 0
TurnsFailed post old new (try_turn.Failed key) =
    (key ≡ post.upquery.key) × (answer : Cancel) × IsOver answer × FailsBy post old new answer
TurnsFailed post old new (try_turn.Worn key) =
    (key ≡ post.upquery.key) × TakesBack post.upquery old.writer new.writer cancel.Worn × OnlyLooks old.guest new.guest
    × (new ≡ record old { writer = new.writer; guest = new.guest; kept = Some post })
TurnsFailed post old new _ = ⊥

-- a cancel raises the lobby for the key where it took a request back, and else leaves it alone
abbrev pub CancelRaises : Cancel → ℕ → GuestSeen → GuestSeen → Type 0
CancelRaises cancel.Cancelled key old new = Raises (raises_for key) old new
CancelRaises _ key old new = new ≡ old
