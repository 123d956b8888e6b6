-- What a get does: tries that find a hole, and how it ends.
use Rattle.std.specs.Prelude.{◌≡◌, ◌<◌, ◌+◌, ◌*◌, ℕ, true, false, List, [], ◌∷◌, ◌++◌, length, Option, None, Some}
use Rattle.std.specs.Prelude.{Result, Ok, Err, is_some}
use Rattle.nr_model.specs.declared.rows.Row.{Row}
use Rattle.nr_model.specs.declared.calls.Call.TheVariants as call
use Rattle.nr_model.specs.declared.calls.Reply.{Reply}
use Rattle.nr_model.specs.declared.calls.Reply.TheVariants as reply
use Rattle.nr_model.specs.Histories.{Entry}
use Rattle.nr_core.specs.Story.{entry}
use Rattle.nr_core.specs.Marks.{acted}
use Rattle.nr_board.specs.Callers.{Caller, Rests}
use Rattle.nr_board.specs.Holds.{HeldIn, HoleIn, finds_by_word, looked}
use Rattle.nr_map.specs.Hands.{Handed}
use Rattle.nr_map.specs.Tickets.{Request}
use Rattle.nr_serve.specs.declared.hands.Hands.{Hands}
use Rattle.nr_serve.specs.declared.answers.Got.{Got}
use Rattle.nr_serve.specs.declared.answers.Got.TheVariants as got
use Rattle.nr_serve.specs.declared.answers.Requested.{Requested}
use Rattle.nr_serve.specs.declared.answers.Requested.TheVariants.{NotMade, Sent, Waiting, Filled}
use Rattle.nr_serve.specs.declared.answers.Tried.{Tried}
use Rattle.nr_serve.specs.declared.answers.Tried.TheVariants as tried
use Rattle.nr_serve.specs.declared.sleepers.TooLate.{TooLate}
use Rattle.nr_serve.specs.Hands.{Moves}

abbrev pub found : ℕ → ℕ → Reply → Entry
found by key answer = entry by (call.Find key) answer

-- the request of a try, if it made one
abbrev pub requested : ℕ → ℕ → Requested → List Entry
requested by key NotMade = []
requested by key (Sent number) = entry by (call.Ask key) (reply.Send number) ∷ []
requested by key Waiting = entry by (call.Ask key) reply.Waiting ∷ []
requested by key Filled = entry by (call.Ask key) reply.Filled ∷ []

-- a try that found a hole, and several ones, each with its request
abbrev pub miss : ℕ → ℕ → Requested → List Entry
miss by key request = found by key reply.Hole ∷ requested by key request

abbrev pub misses : ℕ → ℕ → List Requested → List Entry
misses by key [] = []
misses by key (request ∷ requests) = miss by key request ++ misses by key requests

-- the attempts to post the ticket that was kept, and that of a request that is to be sent
abbrev pub kept_attempts : Option Request → ℕ
kept_attempts None = 0
kept_attempts (Some ticket) = 1

abbrev pub sent_attempts : Requested → ℕ
sent_attempts (Sent number) = 1
sent_attempts _ = 0

-- what is kept after a request: it is left out only where a ticket is kept still, and its own may be kept
abbrev pub LeavesKept : Requested → Option Request → Type 0
LeavesKept NotMade kept = is_some kept ≡ true
LeavesKept (Sent number) kept = Unit {0}
LeavesKept _ kept = kept ≡ None

-- one try that found a hole: the ticket that was kept is posted or kept still, and where none is kept a request is
-- made, whose ticket is posted or kept
pub record MissesOnce (key : ℕ) (old new : Hands) (request : Requested) : Type 0 where
  pub steps : ℕ
  pub named : List ℕ
  pub finds_in : HoleIn (finds_by_word old.reader) named steps
  pub looks : new.reader.marks ≡ acted (looked old.reader.marks key named) new.reader.marks.put
  pub moves : Moves (steps + length (requested old.reader.number key request)) (miss old.reader.number key request) old
      new
  pub leaves : LeavesKept request new.kept
  pub attempts : new.poster.tries ≡ old.poster.tries + (kept_attempts old.kept + sent_attempts request)

-- a fill of the key is to come, or was made since
abbrev pub IsPending : Requested → Type 0
IsPending (Sent number) = Unit {0}
IsPending Waiting = Unit {0}
IsPending _ = ⊥

-- one try was made between these two, it found a hole, a fill is to come, and no ticket is kept
pub record AwaitsFill (key : ℕ) (old new : Hands) (request : Requested) : Type 0 where
  pub missed : MissesOnce key old new request
  pub pending : IsPending request
  pub posted : new.kept ≡ None

-- tries that found a hole, one after the other
abbrev pub MissesAll : ℕ → Hands → Hands → List Requested → Type 0
MissesAll key old new [] = new ≡ old
MissesAll key old new (request ∷ requests) =
    (mid : Hands) × MissesOnce key old mid request × MissesAll key mid new requests

-- a set that is held is answered: the caller gets its rows, unless it is barred, and the reader lets it go
abbrev pub AnswersHeld : Handed → List Row → Caller → List Row → Got → Type 0
AnswersHeld held before reader rows got.Rows =
    Rests (2 * length held.rows + 1) held.reader reader × (rows ≡ held.rows)
AnswersHeld held before reader rows got.GaveUp = ⊥
AnswersHeld held before reader rows got.Barred = Rests 1 held.reader reader × (rows ≡ before)

-- one try that found rows, in the steps of a hold and so many more: the ticket that was kept is posted or kept still,
-- and no other call is made
pub record FindsOnce (key more : ℕ) (old new : Hands) (set : List Row) : Type 0 where
  pub steps : ℕ
  pub named : List ℕ
  pub says : ℕ
  pub holds_in : HeldIn (finds_by_word old.reader) named says steps
  pub looks : new.reader.marks
      ≡ acted (acted (looked old.reader.marks key named) new.reader.marks.put) new.reader.marks.put
  pub moves : Moves (steps + more) (found old.reader.number key (reply.Rows set) ∷ []) old new
  pub attempts : new.poster.tries ≡ old.poster.tries + kept_attempts old.kept

-- one try: it finds a hole, or rows, which the caller gets unless it is barred
abbrev pub TriesOnce : ℕ → Hands → List Row → Hands → List Row → Tried → Type 0
TriesOnce key old before new rows (tried.Missed request) = MissesOnce key old new request × (rows ≡ before)
TriesOnce key old before new rows (tried.Ended got.Rows) = FindsOnce key (2 * length rows + 1) old new rows
TriesOnce key old before new rows (tried.Ended got.GaveUp) = ⊥
TriesOnce key old before new rows (tried.Ended got.Barred) =
    (set : List Row) × FindsOnce key 1 old new set × (rows ≡ before)

-- after that many tries that found a hole a get of so many may end so
abbrev pub MayEnd : ℕ → Got → ℕ → Type 0
MayEnd tries got.GaveUp missed = missed ≡ tries
MayEnd tries _ missed = missed < tries

-- how a get ends after those: by one try more, whose find is its last entry, or by none
abbrev pub Ends : ℕ → Got → Hands → List Row → List Entry → Hands → List Row → Type 0
Ends key got.Rows between before last new rows =
    (last ≡ found between.reader.number key (reply.Rows rows) ∷ [])
    × FindsOnce key (2 * length rows + 1) between new rows
Ends key got.GaveUp between before last new rows = (last ≡ []) × (new ≡ between) × (rows ≡ before)
Ends key got.Barred between before last new rows =
    (set : List Row) × (last ≡ found between.reader.number key (reply.Rows set) ∷ []) × FindsOnce key 1 between new set
    × (rows ≡ before)

-- a get of that many tries: those that found a hole, and how it ended
pub record Gets (key tries : ℕ) (old : Hands) (before : List Row) (new : Hands) (rows : List Row) (got : Got) : Type
    0 where
  pub requests : List Requested
  -- what the client had in its hands after them
  pub between : Hands
  pub missed : MissesAll key old between requests
  -- by the counts each of their calls is one step
  pub counted : finds_by_word old.reader ≡ false
      → between.reader.steps ≡ old.reader.steps + length (misses old.reader.number key requests)
  pub few : MayEnd tries got (length requests)
  pub last : List Entry
  pub ends : Ends key got between before last new rows
  -- and all that together
  pub steps : ℕ
  pub moves : Moves steps (misses old.reader.number key requests ++ last) old new

-- a get that a sleep ended which timed out: tries were left, those that it made found a hole, and to the last of them a
-- fill was to come
pub record EndsLate (key tries : ℕ) (old : Hands) (before : List Row) (new : Hands) (rows : List Row) : Type 0 where
  -- those before the last are a get of so many tries that found a hole
  pub made : ℕ
  pub few : made + 1 < tries
  pub last : Hands
  pub gets : Gets key made old before last rows got.GaveUp
  pub request : Requested
  pub slept : AwaitsFill key last new request

-- a get that may end by a sleep that timed out
abbrev pub GetsInTime : ℕ → ℕ → Hands → List Row → Hands → List Row → Result Got TooLate → Type 0
GetsInTime key tries old before new rows (Ok got) = Gets key tries old before new rows got
GetsInTime key tries old before new rows (Err late) = EndsLate key tries old before new rows
