-- What a get by id does: tries that find no rows, and how it ends.
use Rattle.std.specs.Prelude.{◌≡◌, ◌<◌, ◌+◌, ℕ, List, [], ◌∷◌, length, None, Some, Result, Ok, Err}
use Rattle.nr_model.specs.declared.rows.Row.{Row}
use Rattle.nr_ids.specs.declared.requests.Requested.{Requested}
use Rattle.nr_ids.specs.declared.requests.Requested.TheVariants as requested
use Rattle.nr_ids.specs.Answers.{Requests}
use Rattle.nr_ids.specs.Tokens.{Granted}
use Rattle.nr_idmap.specs.declared.finds.FoundId.{FoundId}
use Rattle.nr_idmap.specs.declared.finds.FoundId.TheVariants as found
use Rattle.nr_idmap.specs.IdFinds.{FindsById}
use Rattle.nr_idmap.specs.Keepers.{IdCaller}
use Rattle.nr_serve.specs.declared.sleepers.TooLate.{TooLate}
use Rattle.nr_idserve.specs.declared.answers.GotId.{GotId}
use Rattle.nr_idserve.specs.declared.answers.GotId.TheVariants as got
use Rattle.nr_idserve.specs.declared.answers.Missed.{Missed}
use Rattle.nr_idserve.specs.declared.answers.Missed.TheVariants.{Pending, NotRequested, Claimed, Named, Busy, Outrun}
use Rattle.nr_idserve.specs.declared.answers.Missed.TheVariants.{Worn}
use Rattle.nr_idserve.specs.declared.answers.TriedId.{TriedId}
use Rattle.nr_idserve.specs.declared.answers.TriedId.TheVariants as tried
use Rattle.nr_idserve.specs.declared.hands.IdHands.{IdHands}
use Rattle.nr_idserve.specs.IdHands.{PostsFirst, PostsKept, with_id_reader}

-- a find by id that found no rows
abbrev pub FindsNothing : ℕ → IdCaller → IdCaller → FoundId → Type 0
FindsNothing id old new answer = FindsById {Room = Unit {0}} (λ room rows. ⊥) id old tt new tt answer

-- no claim was kept, and one request of the directory was made
pub record RequestsIt (id : ℕ) (old new : IdHands) (answer : Requested) : Type 0 where
  pub none : old.kept ≡ None
  pub requests : Requests id old.reader.ids new.reader.ids answer
  pub map : new.reader.caller ≡ old.reader.caller

-- the claim that it was granted is posted; or the queue was full, and it is kept
pub record ClaimsIt (capacity id : ℕ) (old new : IdHands) : Type 0 where
  pub claim : Granted
  pub requests : RequestsIt id old new (requested.Granted claim)
  pub posts : PostsKept capacity (Some claim) old.poster new.kept new.poster

-- it was granted none
pub record IsRefused (id : ℕ) (old new : IdHands) (answer : Requested) : Type 0 where
  pub requests : RequestsIt id old new answer
  pub kept : new.kept ≡ None
  pub poster : new.poster ≡ old.poster

-- what is requested after a find to which the id was absent
abbrev pub RequestsOnce : ℕ → ℕ → IdHands → IdHands → Missed → Type 0
RequestsOnce capacity id old new Pending = ⊥
RequestsOnce capacity id old new NotRequested = (claim : Granted) × (old.kept ≡ Some claim) × (new ≡ old)
RequestsOnce capacity id old new Claimed = ClaimsIt capacity id old new
RequestsOnce capacity id old new Named = (way : ℕ) × IsRefused id old new (requested.Named way)
RequestsOnce capacity id old new Busy = IsRefused id old new requested.Busy
RequestsOnce capacity id old new Outrun = IsRefused id old new requested.Outrun
RequestsOnce capacity id old new Worn = IsRefused id old new requested.Worn

-- what follows a find: nothing where the id's upquery is under way, and else a request
abbrev pub GoesOn : ℕ → ℕ → FoundId → IdHands → IdHands → Missed → Type 0
GoesOn capacity id found.Rows old new missed = ⊥
GoesOn capacity id found.Pending old new missed = (missed ≡ Pending) × (new ≡ old)
GoesOn capacity id found.Moved old new missed = RequestsOnce capacity id old new missed
GoesOn capacity id found.Absent old new missed = RequestsOnce capacity id old new missed

-- one try that found no rows: the claim that was kept is posted or kept still, the id is found missing, and requested
-- where it is absent and no claim is kept
pub record MissesOnce (capacity id : ℕ) (old new : IdHands) (missed : Missed) : Type 0 where
  pub posted : IdHands
  pub posts : PostsFirst capacity old posted
  pub answer : FoundId
  pub reader : IdCaller
  pub finds : FindsNothing id posted.reader reader answer
  pub goes_on : GoesOn capacity id answer (with_id_reader posted reader) new missed

-- the dataflow is to raise the id's group, or has raised it since
abbrev pub IsAwaited : Missed → Type 0
IsAwaited NotRequested = ⊥
IsAwaited Named = ⊥
IsAwaited Worn = ⊥
IsAwaited _ = Unit {0}

-- one try was made between these two, it found no rows, the group is to be raised, and no claim is kept
pub record AwaitsRaise (capacity id : ℕ) (old new : IdHands) (missed : Missed) : Type 0 where
  pub tried : MissesOnce capacity id old new missed
  pub awaited : IsAwaited missed
  pub posted : new.kept ≡ None

-- tries that found no rows, the last one first
abbrev pub MissesAll : ℕ → ℕ → IdHands → IdHands → List Missed → Type 0
MissesAll capacity id old new [] = new ≡ old
MissesAll capacity id old new (missed ∷ before) =
    (mid : IdHands) × MissesAll capacity id old mid before × MissesOnce capacity id mid new missed

-- so many of them
pub record MissesTimes (capacity id count : ℕ) (old new : IdHands) : Type 0 where
  pub each : List Missed
  pub counted : length each ≡ count
  pub all : MissesAll capacity id old new each

-- what a get is told: the queue's capacity, the id, and how often it may try
pub record Getting : Type 0 where
  pub capacity : ℕ
  pub id : ℕ
  pub tries : ℕ

module _ {Room : Type 0} (shows : Room → List Row → Type 0) where
  -- one try that found rows, which the room has: the claim that was kept is posted or kept still
  pub record FindsOnce (capacity id : ℕ) (old : IdHands) (before : Room) (new : IdHands) (after : Room) : Type 0 where
    pub posted : IdHands
    pub posts : PostsFirst capacity old posted
    pub finds : FindsById shows id posted.reader before new.reader after found.Rows
    pub rest : new ≡ with_id_reader posted new.reader

  abbrev pub TriesOnce : ℕ → ℕ → IdHands → Room → IdHands → Room → TriedId → Type 0
  TriesOnce capacity id old before new after (tried.Missed missed) =
      MissesOnce capacity id old new missed × (after ≡ before)
  TriesOnce capacity id old before new after tried.Rows = FindsOnce capacity id old before new after

  -- how a get ends after that many tries that found no rows: by one more that finds some, or by none after as many as
  -- it may make
  abbrev pub EndsAfter : Getting → ℕ → IdHands → Room → IdHands → Room → GotId → Type 0
  EndsAfter get missed between before new after got.Rows =
      (missed < get.tries) × FindsOnce get.capacity get.id between before new after
  EndsAfter get missed between before new after got.GaveUp = (missed ≡ get.tries) × (new ≡ between) × (after ≡ before)

  -- a get of that many tries
  pub record GetsId (get : Getting) (old : IdHands) (before : Room) (new : IdHands) (after : Room)
      (answer : GotId) : Type 0 where
    pub missed : ℕ
    pub between : IdHands
    pub misses : MissesTimes get.capacity get.id missed old between
    pub ends : EndsAfter get missed between before new after answer

  -- a get that a sleep ended which timed out: tries were left, those that it made found no rows, and after the last of
  -- them the group was to be raised
  pub record EndsIdLate (get : Getting) (old : IdHands) (before : Room) (new : IdHands) (after : Room) : Type 0 where
    -- those before the last
    pub made : ℕ
    pub few : made + 1 < get.tries
    pub last : IdHands
    pub misses : MissesTimes get.capacity get.id made old last
    pub same : after ≡ before
    pub missed : Missed
    pub slept : AwaitsRaise get.capacity get.id last new missed

  -- a get that may end by a sleep that timed out
  abbrev pub GetsIdInTime : Getting → IdHands → Room → IdHands → Room → Result GotId TooLate → Type 0
  GetsIdInTime get old before new after (Ok answer) = GetsId get old before new after answer
  GetsIdInTime get old before new after (Err late) = EndsIdLate get old before new after
