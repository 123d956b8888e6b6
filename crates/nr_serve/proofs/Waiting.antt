-- The tries of a get: what one that finds a hole adds, what several come to, and the sleeps between them.
use Rattle.std.specs.Prelude.{nat_lt}
use Rattle.std.specs.Result.{IsErrAnd}
use Rattle.std.proofs.Common.{◌≡◌, ℕ, Bool, false, ◌+◌, ◌-◌, ◌≤◌, Result, Ok, Err, List, [], ◌∷◌, ◌++◌, length, refl}
use Rattle.std.proofs.Common.{sym, ◌∙◌, subst, arith, append_assoc, append-nil, length-append, None, ap, ◌<◌, ◌⊎◌, suc}
use Rattle.std.proofs.Common.{Option, inr, slice_index}
use Rattle.nr_model.specs.declared.rows.Row.{Row}
use Rattle.nr_model.specs.Histories.{Entry}
use Rattle.nr_model.specs.declared.calls.Call.TheVariants as call
use Rattle.nr_model.specs.declared.calls.Reply.{Reply}
use Rattle.nr_model.specs.declared.calls.Reply.TheVariants as reply
use Rattle.nr_core.specs.Marks.{LoggedLoad, Marks, acted, with_loads}
use Rattle.nr_core.specs.Puts.{put_number}
use Rattle.nr_board.specs.Holds.{HoleIn, finds_by_word, FindsHole, looked}
use Rattle.nr_board.specs.Callers.{Caller, Gains}
use Rattle.nr_map.specs.Hands.{Handed, PinsByHand}
use Rattle.nr_map.specs.Tickets.{Request}
use Rattle.nr_serve.specs.declared.hands.Hands.{Hands}
use Rattle.nr_serve.specs.declared.answers.Got.{Got}
use Rattle.nr_serve.specs.declared.answers.Got.TheVariants as got
use Rattle.nr_serve.specs.declared.answers.Requested.{Requested}
use Rattle.nr_serve.specs.declared.sleepers.TooLate.{TooLate}
use Rattle.nr_serve.specs.Gets.{Ends, Gets, GetsInTime, MayEnd, MissesAll, MissesOnce, miss, misses, requested}
use Rattle.nr_serve.specs.Gets.{LeavesKept, TriesOnce, found, kept_attempts, sent_attempts, AwaitsFill, IsPending}
use Rattle.nr_serve.specs.Hands.{Moves, last_count}
use Rattle.nr_serve.specs.declared.answers.Tried.TheVariants as tried
use Rattle.nr_serve.specs.Counts.{GuestSeen, IsLaterOf, group_at}
use Rattle.nr_serve.specs.Waits.{GetsSleeping, SawRaises, SleepsIf, if_left, sleeps, sleeps_after, unless_kept}
use Rattle.nr_serve.proofs.Moving.{moves_both, moves_none, makes_by_gains, posts_none}

pub misses-snoc : (by key : ℕ) (requests : List Requested) (request : Requested)
    → misses by key (requests ++ request ∷ []) ≡ misses by key requests ++ miss by key request
misses-snoc by key [] request = append-nil (miss by key request)
misses-snoc by key (first ∷ requests) request = rw (misses-snoc by key requests request, append_assoc)

abbrev pub misses_then : (key : ℕ) (a b c : Hands) (requests : List Requested) (request : Requested)
    → MissesAll key a b requests → MissesOnce key b c request → MissesAll key a c (requests ++ request ∷ [])
misses_then key a b c [] request all once =
    (c, subst (λ (hands : Hands). MissesOnce key hands c request) all once, refl)
misses_then key a b c (first ∷ requests) request all once =
    (all.0, all.1, misses_then key all.0 b c requests request all.2 once)

-- a reader that moved has a word still, or none
pub same_words : (steps : ℕ) (old : Hands) (entries : List Entry) (new : Hands) → Moves steps entries old new
    → finds_by_word new.reader ≡ finds_by_word old.reader
same_words steps old entries new moves = (λ j. nat_lt (moves.makes.number j - 1) (moves.makes.table j).announcers)

-- that many tries found a hole
pub record Missed (key count : ℕ) (old new : Hands) : Type 0 where
  pub requests : List Requested
  pub count_is : length requests ≡ count
  pub missed : MissesAll key old new requests
  pub steps : ℕ
  pub counted : finds_by_word old.reader ≡ false → steps ≡ length (misses old.reader.number key requests)
  pub moves : Moves steps (misses old.reader.number key requests) old new

abbrev pub missed_none : (key : ℕ) (a : Hands) → a.sends ≤ last_count → Missed key 0 a a
missed_none key a small =
    record { requests = []; count_is = refl; missed = refl; steps = 0; counted = λ _. refl; moves = moves_none a small }

-- one try more that found a hole
abbrev pub missed_more : {key n : ℕ} {a b c : Hands} {request : Requested} → Missed key n a b
    → MissesOnce key b c request → Missed key (n + 1) a c
missed_more {key} {a = a} {b = b} {c = c} {request = request} missed once =
    let by = a.reader.number in
    let all = misses-snoc by key missed.requests request in
    record {
      requests = missed.requests ++ request ∷ [];
      count_is = omega (arith, missed.count_is, length-append missed.requests (request ∷ []));
      missed = misses_then key a b c missed.requests request missed.missed once;
      steps = missed.steps + (once.steps + length (requested by key request));
      counted = λ no_word.
          let one : once.steps ≡ 1
          = (subst (λ (w : Bool). HoleIn w once.named once.steps)
          (same_words missed.steps a _ b missed.moves ∙ no_word) once.finds_in).1 in
          rw (all, length-append) (omega (arith, one, missed.counted no_word));
      moves =
          rw all
          (moves_both refl missed.moves
          (subst (λ (at : ℕ). Moves (once.steps + length (requested at key request)) (miss at key request) b c)
          missed.moves.makes.number once.moves));
    }

-- by the counts they took a step for each call
pub counted_by : (key n : ℕ) (a b : Hands) → (missed : Missed key n a b) → finds_by_word a.reader ≡ false
    → b.reader.steps ≡ a.reader.steps + length (misses a.reader.number key missed.requests)
counted_by key n a b missed no_word = grind arith

-- a get that ends so after those tries, by these calls
abbrev pub gets_by : {key n tries steps : ℕ} {a b c : Hands} {before rows : List Row} {last : List Entry} (answer : Got)
    → MayEnd tries answer n → Missed key n a b → Ends key answer b before last c rows → Moves steps last b c
    → Gets key tries a before c rows answer
gets_by {key} {n} {tries} {steps} {a} {b} {last = last} answer few missed ends moves = record {
  requests = missed.requests;
  between = b;
  missed = missed.missed;
  counted = counted_by key n a b missed;
  few = subst (MayEnd tries answer) (sym missed.count_is) few;
  last = last;
  ends = ends;
  steps = missed.steps + steps;
  moves = moves_both refl missed.moves moves;
}

-- one that gives up
abbrev pub gives_up : {key n tries : ℕ} {a b : Hands} {before rows : List Row} → n ≡ tries → Missed key n a b
    → rows ≡ before → Gets key tries a before b rows got.GaveUp
gives_up {b = b} all missed same =
    gets_by got.GaveUp all missed (refl, refl, same)
    (moves_none b (let counted = missed.moves.sends in omega (arith, counted)))

-- the calls of a get, however it ended
pub record Called (old new : Hands) : Type 0 where
  pub steps : ℕ
  pub entries : List Entry
  pub moves : Moves steps entries old new

pub called_in_time : (key tries : ℕ) (a b : Hands) (before rows : List Row) (answer : Result Got TooLate)
    → GetsInTime key tries a before b rows answer → Called a b
called_in_time key tries a b before rows (Ok got) gets = record { steps = _; entries = _; moves = gets.moves }
called_in_time key tries a b before rows (Err late) gets =
    record { steps = _; entries = _; moves = moves_both refl gets.gets.moves gets.slept.missed.moves }

-- a find after the post of a ticket that was kept
finds : {steps key : ℕ} {a b : Hands} {answer : Reply} {reader : Caller} → Moves 0 [] a b
    → Gains steps (call.Find key) b.reader reader answer
    → Moves steps (found a.reader.number key answer ∷ []) a (record b { reader = reader })
finds {steps} {key} {a} {b} {answer} {reader} posted gains =
    moves_both (omega arith) posted
    (subst (λ (by : ℕ). Moves steps (found by key answer ∷ []) b (record b { reader = reader })) posted.makes.number
    (record {
      makes = makes_by_gains steps b.reader (call.Find key) answer reader gains;
      posts = posts_none b.kept b.poster;
      sends = omega (arith, posted.sends);
    }))

misses_once : {key : ℕ} (steps : ℕ) {a b c : Hands} {reader : Caller} (request : Requested) → Moves 0 [] a b
    → Gains (steps + 0) (call.Find key) b.reader reader reply.Hole
    → Moves (length (requested reader.number key request)) (requested reader.number key request)
    (record b { reader = reader }) c
    → Moves (steps + length (requested a.reader.number key request)) (miss a.reader.number key request) a c
misses_once {key} steps {a} {b} {c} {reader} request posted gains asked =
    moves_both (omega arith) (finds posted gains)
    (subst (λ (by : ℕ). Moves (length (requested by key request)) (requested by key request)
    (record b { reader = reader }) c) (gains.number ∙ posted.makes.number) asked)

-- a ticket that was kept was posted, or is kept still
pub record Posted (a b : Hands) : Type 0 where
  pub moves : Moves 0 [] a b
  pub attempts : b.poster.tries ≡ a.poster.tries + kept_attempts a.kept
  pub reader : b.reader ≡ a.reader

-- a find by a hand that held nothing is its reader's
pub hole_by_hand : (key : ℕ) (old new : Handed) → old.key ≡ None → PinsByHand key old new false
    → (finds : FindsHole 0 key old.reader new.reader)
    × (new.reader.marks ≡ acted (looked old.reader.marks key finds.named) (put_number new.reader.seen key))
hole_by_hand key old new none pins =
    let put : ℕ = put_number new.reader.seen key in
    let finds = rw none at pins.0 in
    let marks = rw none at pins.1.marks in
    (finds, marks ∙ ap (λ (loads : List LoggedLoad). acted (with_loads old.reader.marks loads) put) finds.looks)

-- a try that finds a hole: the post, the find, and the request
pub tries_hole : (key : ℕ) (a b c : Hands) (reader : Caller) (request : Requested) (rows : List Row) → Posted a b
    → (hole : FindsHole 0 key b.reader reader)
    → reader.marks ≡ acted (looked b.reader.marks key hole.named) (put_number reader.seen key)
    → c.reader.marks ≡ reader.marks
    → Moves (length (requested reader.number key request)) (requested reader.number key request)
    (record b { reader = reader }) c
    → LeavesKept request c.kept → c.poster.tries ≡ b.poster.tries + sent_attempts request
    → TriesOnce key a rows c rows (tried.Missed request)
tries_hole key a b c reader request rows posted hole marked still asked leaves then = (
  record {
    steps = hole.steps;
    named = hole.named;
    finds_in = subst (λ (w : Bool). HoleIn w hole.named hole.steps) (same_words 0 a [] b posted.moves) hole.finds_in;
    looks = let found
        = still ∙ marked
        ∙ ap (λ (old : Caller). acted (looked old.marks key hole.named) (put_number reader.seen key)) posted.reader in
        found ∙ ap (acted (looked a.reader.marks key hole.named)) (sym (ap (λ (m : Marks). m.put) found));
    moves = misses_once hole.steps request posted.moves hole.gains asked;
    leaves = leaves;
    attempts = let first = posted.attempts in omega (arith, first, then);
  },
  refl,
)

-- that many tries found a hole, and each that left another slept where it had to
pub record Slept (key n left : ℕ) (a b : Hands) (g h : GuestSeen) : Type 0 where
  pub missed : Missed key n a b
  pub saw : SawRaises key (sleeps key left a b missed.requests missed.missed) g h

pub saw_later : (key times : ℕ) (g h i : GuestSeen) → SawRaises key times g h → IsLaterOf h i → SawRaises key times g i
saw_later key times g h i saw later = grind arith

-- one try more adds its own sleep
sleeps_then : (key left : ℕ) (a b c : Hands) (requests : List Requested) (request : Requested)
    (all : MissesAll key a b requests) (once : MissesOnce key b c request)
    → sleeps key left a c (requests ++ request ∷ []) (misses_then key a b c requests request all once)
    ≡ sleeps key left a b requests all + if_left (left - length requests) (sleeps_after request c.kept)
sleeps_then key left a b c [] request all once =
    let all_left : left - 0 ≡ left = omega arith in
    omega (arith, ap (λ (m : ℕ). if_left m (sleeps_after request c.kept)) all_left)
sleeps_then key left a b c (first ∷ requests) request all once =
    let rest = sleeps_then key (left - 1) all.0 b c requests request all.2 once in
    let same : (left - 1) - length requests ≡ left - suc (length requests) = omega arith in
    let of_all : (left - 1) - length requests ≡ left - length (first ∷ requests) = same in
    omega (arith, rest, ap (λ (m : ℕ). if_left m (sleeps_after request c.kept)) of_all)

-- the sleeps after a try are none, or one where a fill is to come and no ticket is kept
sleeps_by : (request : Requested) (kept : Option Request)
    → (sleeps_after request kept ≡ 0) ⊎ ((sleeps_after request kept ≡ unless_kept kept) × IsPending request)
sleeps_by request kept = grind arith

-- the guest saw the count rise so often, and then for the sleeps after one try more, which began with a look at it
pub saw_more : {Kept : Type 0} (key before left count times : ℕ) (is_pending : Type 0) (kept : Option Kept)
    (g h i k : GuestSeen) → (times ≡ 0) ⊎ ((times ≡ unless_kept kept) × is_pending) → SawRaises key before g h
    → IsLaterOf h i → slice_index i.seen (group_at key) ≡ count → IsLaterOf i k
    → SleepsIf left count key is_pending kept k → SawRaises key (before + if_left left times) g k
saw_more key before left count times is_pending kept g h i k how saw looked found waited sleeps_if = grind arith

pub slept_none : (key left : ℕ) (a : Hands) (g : GuestSeen) → a.sends ≤ last_count → Slept key 0 left a a g g
slept_none key left a g small = record { missed = missed_none key a small; saw = inr (omega arith) }

-- one try more, which began with a look at the count and may have ended with a sleep
pub slept_more : {key n left count : ℕ} {a b c : Hands} {request : Requested} {g h i k : GuestSeen}
    → Slept key n left a b g h → MissesOnce key b c request → IsLaterOf h i
    → slice_index i.seen (group_at key) ≡ count → IsLaterOf i k
    → SleepsIf (left - n) count key (IsPending request) c.kept k → Slept key (n + 1) left a c g k
slept_more {key} {n} {left} {count} {a} {b} {c} {request} slept once looked found waited sleeps_if =
    let missed = slept.missed in
    let then = sleeps_then key left a b c missed.requests request missed.missed once in
    let by = sleeps_by request c.kept in
    let counted = missed.count_is in
    record { missed = missed_more missed once; saw = rw (then, counted) (grind arith) }

-- a get that ends by a try which found rows
pub sleeps_by_end : {key n tries : ℕ} {a b c : Hands} {before between rows : List Row} (answer : Got)
    {g h i : GuestSeen} → Slept key n (tries - 1) a b g h → n < tries → between ≡ before
    → TriesOnce key b between c rows (tried.Ended answer) → IsLaterOf h i
    → GetsSleeping key tries a before g c rows i (Ok answer)
sleeps_by_end {key} got.Barred slept low same once later =
    (gets_by got.Barred low slept.missed (once.0, refl, once.1, once.2 ∙ same) once.1.moves, grind arith)
sleeps_by_end got.GaveUp slept low same once later = absurd once
sleeps_by_end {key} got.Rows slept low same once later =
    (gets_by got.Rows low slept.missed (refl, once) once.moves, grind arith)

-- one that gives up
pub sleeps_by_none : {key n tries : ℕ} {a b : Hands} {before rows : List Row} {g h : GuestSeen}
    → Slept key n (tries - 1) a b g h → n ≡ tries → rows ≡ before
    → GetsSleeping key tries a before g b rows h (Ok got.GaveUp)
sleeps_by_none slept all same = (gives_up all slept.missed same, slept.saw)

-- and one whose last sleep timed out
pub sleeps_late : (Late : TooLate → Type 0) {key n : ℕ} (tries : ℕ) {a b c : Hands} {before rows : List Row}
    {request : Requested} (ended : Result Got TooLate) {g h i : GuestSeen} → IsErrAnd ended Late
    → Slept key n (tries - 1) a b g h → n + 1 < tries → rows ≡ before → AwaitsFill key b c request → IsLaterOf h i
    → GetsSleeping key tries a before g c rows i ended
sleeps_late Late tries (Ok got) late slept few same last later = absurd late
sleeps_late Late {key} {n} tries {b = b} {request = request} (Err error) {g} {h} {i} late slept few same last later = (
  record { made = n; few = few; last = b; gets = gives_up refl slept.missed same; request = request; slept = last },
  saw_later key _ g h i slept.saw later,
)

pub sleeps_in_time : (key tries : ℕ) (a b : Hands) (before rows : List Row) (g h : GuestSeen)
    (ended : Result Got TooLate) → GetsSleeping key tries a before g b rows h ended
    → GetsInTime key tries a before b rows ended
sleeps_in_time key tries a b before rows g h ended gets = grind arith
