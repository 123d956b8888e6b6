-- How often a get sleeps. Each sleep but one that timed out ends once its guest has seen the count of the key's group
-- rise, or the lobby closed.
use Rattle.std.specs.Prelude.{◌≡◌, ◌<◌, ◌≤◌, ◌+◌, ◌-◌, ◌⊎◌, ℕ, zero, suc, List, [], ◌∷◌, Option, None, Some, Result, Ok}
use Rattle.std.specs.Prelude.{Err, slice_index}
use Rattle.nr_model.specs.declared.rows.Row.{Row}
use Rattle.nr_map.specs.Tickets.{Request}
use Rattle.nr_serve.specs.declared.hands.Hands.{Hands}
use Rattle.nr_serve.specs.declared.answers.Got.{Got}
use Rattle.nr_serve.specs.declared.answers.Requested.{Requested}
use Rattle.nr_serve.specs.declared.answers.Requested.TheVariants.{Sent, Waiting}
use Rattle.nr_serve.specs.declared.sleepers.TooLate.{TooLate}
use Rattle.nr_serve.specs.Counts.{GuestSeen, closed_at, group_at}
use Rattle.nr_serve.specs.Gets.{EndsLate, Gets, MissesAll}

-- with so many tries left, a raise to come and nothing kept, the count of the key's group has gone past what it was
-- before the last try
abbrev pub SleepsIf : {Kept : Type 0} → (left count key : ℕ) → Type 0 → Option Kept → GuestSeen → Type 0
SleepsIf left count key is_pending kept guest =
    0 < left → is_pending → kept ≡ None →
    (count < slice_index guest.seen (group_at key)) ⊎ (0 < slice_index guest.seen closed_at)

-- once where nothing is kept
abbrev pub unless_kept : {Kept : Type 0} → Option Kept → ℕ
unless_kept None = 1
unless_kept (Some kept) = 0

-- the sleeps after one try that found a hole: one where a fill is to come, and no ticket is kept
abbrev pub sleeps_after : Requested → Option Request → ℕ
sleeps_after (Sent number) kept = unless_kept kept
sleeps_after Waiting kept = unless_kept kept
sleeps_after _ kept = 0

-- none where no try is left
abbrev pub if_left : (left times : ℕ) → ℕ
if_left zero times = 0
if_left (suc left) times = times

-- the sleeps of several tries, of which the first leaves so many
abbrev pub sleeps : (key left : ℕ) (old new : Hands) (requests : List Requested) → MissesAll key old new requests → ℕ
sleeps key left old new [] missed = 0
sleeps key left old new (request ∷ requests) missed =
    if_left left (sleeps_after request missed.0.kept) + sleeps key (left - 1) missed.0 new requests missed.2

-- the guest saw the count rise that often, or the lobby closed
abbrev pub SawRaises : (key times : ℕ) → GuestSeen → GuestSeen → Type 0
SawRaises key times old new =
    (0 < slice_index new.seen closed_at)
    ⊎ (slice_index old.seen (group_at key) + times ≤ slice_index new.seen (group_at key))

-- a get of that many tries slept after each try that leaves another, where a fill was to come and no ticket was kept
abbrev pub GetsSleeping : (key tries : ℕ) → Hands → List Row → GuestSeen → Hands → List Row → GuestSeen
    → Result Got TooLate → Type 0
GetsSleeping key tries old before guest new rows guest' (Ok got) =
    (gets : Gets key tries old before new rows got)
    × SawRaises key (sleeps key (tries - 1) old gets.between gets.requests gets.missed) guest guest'
GetsSleeping key tries old before guest new rows guest' (Err late) =
    (ends : EndsLate key tries old before new rows)
    × SawRaises key (sleeps key (tries - 1) old ends.gets.between ends.gets.requests ends.gets.missed) guest guest'
