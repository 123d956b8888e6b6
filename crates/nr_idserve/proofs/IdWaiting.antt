-- The tries of a get by id: a try from its calls, what several come to, and the sleeps between them.
use Rattle.std.specs.Result.{IsErrAnd}
use Rattle.std.proofs.Common.{◌≡◌, ◌+◌, ℕ, List, [], ◌∷◌, refl, arith, ◌-◌, ◌<◌, ◌⊎◌, Option, Ok, Err, subst, inr}
use Rattle.std.proofs.Common.{slice_index, Result}
use Rattle.nr_model.specs.declared.rows.Row.{Row}
use Rattle.nr_idserve.specs.declared.answers.Missed.{Missed}
use Rattle.nr_idserve.specs.declared.hands.IdHands.{IdHands}
use Rattle.nr_idserve.specs.IdHands.{PostsFirst, with_id_reader}
use Rattle.nr_idserve.specs.IdGets.{GoesOn, MissesOnce, MissesTimes, AwaitsRaise, FindsOnce, GetsIdInTime, Getting}
use Rattle.nr_idserve.specs.IdGets.{IsAwaited}
use Rattle.nr_ids.specs.Tokens.{Granted}
use Rattle.nr_idserve.specs.declared.answers.GotId.{GotId}
use Rattle.nr_idserve.specs.declared.answers.GotId.TheVariants as got
use Rattle.nr_idserve.specs.IdWaits.{GetsIdSleeping, sleeps, sleeps_after}
use Rattle.nr_idmap.specs.declared.finds.FoundId.{FoundId}
use Rattle.nr_idmap.specs.IdFinds.{FindsById}
use Rattle.nr_idmap.specs.Keepers.{IdCaller}
use Rattle.nr_serve.specs.Counts.{GuestSeen, IsLaterOf, group_at}
use Rattle.nr_serve.specs.Waits.{SawRaises, SleepsIf, unless_kept}
use Rattle.nr_serve.specs.declared.sleepers.TooLate.{TooLate}
use Rattle.nr_serve.proofs.Waiting.{saw_later, saw_more}

abbrev pub missed_none : (capacity id : ℕ) (hands : IdHands) → MissesTimes capacity id 0 hands hands
missed_none capacity id hands = record { each = []; counted = refl; all = refl }

abbrev pub missed_more : {capacity id count : ℕ} {old mid new : IdHands} {missed : Missed}
    → MissesTimes capacity id count old mid → MissesOnce capacity id mid new missed
    → MissesTimes capacity id (count + 1) old new
missed_more {mid = mid} {missed = missed} before once =
    record { each = missed ∷ before.each; counted = omega (arith, before.counted); all = (mid, before.all, once) }

module _ {Room : Type 0} (shows : Room → List Row → Type 0) (capacity id : ℕ) (old posted : IdHands)
    (reader : IdCaller) (new : IdHands) (missed : Missed) (before after : Room) where
  -- with the request that followed
  pub missed_by : (answer : FoundId) → PostsFirst capacity old posted
      → FindsById shows id posted.reader before reader after answer
      → GoesOn capacity id answer (with_id_reader posted reader) new missed
      → MissesOnce capacity id old new missed × (after ≡ before)
  missed_by answer posts finds goes = grind arith

-- that many tries of a get found no rows, and each that left another slept where it had to
pub record Slept (capacity id n tries group : ℕ) (a b : IdHands) (g h : GuestSeen) : Type 0 where
  pub missed : MissesTimes capacity id n a b
  pub saw : SawRaises group (sleeps capacity id tries a b missed.each missed.all) g h

-- the sleeps after a try are none, or one where the group is to be raised and no claim is kept
sleeps_by : (missed : Missed) (kept : Option Granted)
    → (sleeps_after missed kept ≡ 0) ⊎ ((sleeps_after missed kept ≡ unless_kept kept) × IsAwaited missed)
sleeps_by missed kept = grind arith

pub slept_none : (capacity id tries group : ℕ) (a : IdHands) (g : GuestSeen)
    → Slept capacity id 0 tries group a a g g
slept_none capacity id tries group a g = record { missed = missed_none capacity id a; saw = inr (omega arith) }

-- one try more, which began with a look at the count and may have ended with a sleep
pub slept_more : {capacity id n tries group count : ℕ} {a b c : IdHands} {missed : Missed} {g h i k : GuestSeen}
    → Slept capacity id n tries group a b g h → MissesOnce capacity id b c missed → IsLaterOf h i
    → slice_index i.seen (group_at group) ≡ count → IsLaterOf i k
    → SleepsIf (tries - 1 - n) count group (IsAwaited missed) c.kept k → Slept capacity id (n + 1) tries group a c g k
slept_more {capacity} {id} {n} {tries} {group} {count} {a} {b} {c} {missed} {g} {h} {i} {k} slept once looked found
    waited sleeps_if =
    let before = slept.missed in
    record {
      missed = missed_more before once;
      saw =
          rw before.counted
          (saw_more group (sleeps capacity id tries a b before.each before.all) (tries - 1 - n) count
          (sleeps_after missed c.kept) (IsAwaited missed) c.kept g h i k (sleeps_by missed c.kept) slept.saw looked
          found waited sleeps_if);
    }

abbrev getting : ℕ → ℕ → ℕ → Getting
getting capacity id tries = record { capacity = capacity; id = id; tries = tries }

module _ {Room : Type 0} (shows : Room → List Row → Type 0) {capacity id n tries group : ℕ} {a b : IdHands}
    {before : Room} {g h : GuestSeen} (slept : Slept capacity id n tries group a b g h) where
  -- a get that ends by a try which found rows
  pub sleeps_by_end : {c : IdHands} {between rows : Room} {i : GuestSeen} → n < tries → between ≡ before
      → FindsOnce shows capacity id b between c rows → IsLaterOf h i
      → GetsIdSleeping shows (getting capacity id tries) group a before g c rows i (Ok got.Rows)
  sleeps_by_end {c} {between} {rows} {i} low same once later =
      let found = subst (λ (room : Room). FindsOnce shows capacity id b room c rows) same once in (
        record { missed = n; between = b; misses = slept.missed; ends = (low, found) },
        saw_later group _ g h i slept.saw later,
      )

  -- one that gives up
  pub sleeps_by_none : {rows : Room} → n ≡ tries → rows ≡ before
      → GetsIdSleeping shows (getting capacity id tries) group a before g b rows h (Ok got.GaveUp)
  sleeps_by_none all same =
      (record { missed = n; between = b; misses = slept.missed; ends = (all, refl, same) }, slept.saw)

  -- and one whose last sleep timed out
  pub sleeps_late : (Late : TooLate → Type 0) {c : IdHands} {rows : Room} {missed : Missed}
      (ended : Result GotId TooLate) {i : GuestSeen} → IsErrAnd ended Late → n + 1 < tries → rows ≡ before
      → AwaitsRaise capacity id b c missed → IsLaterOf h i
      → GetsIdSleeping shows (getting capacity id tries) group a before g c rows i ended
  sleeps_late Late (Ok got) late few same last later = absurd late
  sleeps_late Late {missed = missed} (Err why) {i} late few same last later = (
    record { made = n; few = few; last = b; misses = slept.missed; same = same; missed = missed; slept = last },
    saw_later group _ g h i slept.saw later,
  )

pub sleeps_in_time : {Room : Type 0} (shows : Room → List Row → Type 0) (get : Getting) (group : ℕ) (a b : IdHands)
    (before rows : Room) (g h : GuestSeen) (ended : Result GotId TooLate)
    → GetsIdSleeping shows get group a before g b rows h ended → GetsIdInTime shows get a before b rows ended
sleeps_in_time shows get group a b before rows g h ended gets = grind arith
