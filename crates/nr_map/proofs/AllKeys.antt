-- What a history has of each key, summed over all keys; and that a beginning which is at least and at most is all.
use Rattle.std.proofs.Common.{◌≡◌, ◌≢◌, ℕ, ◌+◌, ◌&&◌, Bool, false, cond, List, [], ◌∷◌, get_or, length, refl, ap, arith}
use Rattle.std.proofs.Common.{append-nil, length-append, count_by}
use Rattle.std.proofs.lemmas.List.{nil_from_length}
use Rattle.nr_model.proofs.HistoryLemmas.{count_by-cons, sends_are_answered_lem}
use Rattle.nr_model.specs.declared.states.KeyState.{KeyState}
use Rattle.nr_model.specs.declared.states.KeyState.TheVariants as states
use Rattle.nr_model.specs.Histories.{Entry, asks, cancels, cancels_key, fills, fills_key, is_cancelled, is_done}
use Rattle.nr_model.specs.Histories.{is_send, sends}
use Rattle.nr_model.specs.Laws.{pending}
use Rattle.nr_model.specs.Maps.{call_key, state_of}
use Rattle.nr_core.proofs.Histories.{length-now}
use Rattle.nr_core.proofs.Sums.{below-first, below-same, below-sum}
use Rattle.nr_core.specs.declared.shape.Shape.{Shape}
use Rattle.nr_core.specs.Slots.{bound_of}
use Rattle.nr_core.specs.Story.{map_after}
use Rattle.nr_core.specs.Sums.{below, total}
use Rattle.nr_map.proofs.Gathered.{by_index, entries_are_callers_lem}
use Rattle.nr_board.specs.Entries.{AreCallers}
use Rattle.nr_map.specs.Rounds.{BeginningsMeet, SendsOfAllKeys, is_cancel, is_fill, is_sent}

-- a test of one key's entries, for each key
by_keys : (tests : ℕ → Entry → Bool) (shape : Shape) (log : List Entry)
    → ((key : ℕ) (e : Entry) → key ≢ call_key e.call → tests key e ≡ false) → AreCallers shape log
    → below (λ key. count_by (tests key) log) shape.keys ≡ count_by (λ e. tests (call_key e.call) e) log
by_keys tests shape log other all =
    by_index shape (λ (e : Entry). call_key e.call) shape.keys (λ e is. is.0)
    (λ e. tests (call_key e.call) e) (λ key log. count_by (tests key) log) (λ key. refl)
    (λ e log. count_by-cons (tests (call_key e.call)) e log)
    (λ key e log isnt.
    omega (arith, count_by-cons (tests key) e log, ap (λ (b : Bool). cond {A = ℕ} b 1 0) (other key e isnt))) log all

-- a sum over the keys' states
by_states : (f : KeyState → ℕ) (l : List KeyState)
    → below (λ key. f (get_or l key (states.Hole 0))) (length l) ≡ total f l
by_states f [] = refl
by_states f (state ∷ l) =
    omega (arith, below-first (λ key. f (get_or (state ∷ l) key (states.Hole 0))) (length l), by_states f l)

pub sends_of_all_keys_lem : SendsOfAllKeys
sends_of_all_keys_lem writer readers knows =
    let shape = writer.table.shape in
    let log = writer.seen in
    let keys = length-now shape log in
    let waiting : ℕ → ℕ = λ key. pending (state_of (map_after shape log) key) in
    let sent
    = by_keys (λ key e. asks key e.call && is_send e.reply) shape log (λ key e other. grind arith) knows.callers in
    let filled
    = by_keys (λ key e. fills_key key e.call && is_done e.reply) shape log (λ key e other. grind arith)
    knows.callers in
    let cancelled
    = by_keys (λ key e. cancels_key key e.call && is_cancelled e.reply) shape log (λ key e other. grind arith)
    knows.callers in
    let answered : ℕ → ℕ = λ key. fills log key + cancels log key in
    let each
    = below-same (sends log) (λ key. answered key + waiting key) shape.keys
    (λ key near. sends_are_answered_lem shape.keys (bound_of shape) shape.first_number key log knows.legal
    near) in
    let pends = rw keys at (by_states pending (map_after shape log).states) in
    omega (
      arith,
      sent,
      filled,
      each,
      below-sum answered waiting shape.keys,
      below-sum (fills log) (cancels log) shape.keys,
      pends,
      entries_are_callers_lem writer readers is_sent knows,
      entries_are_callers_lem writer readers is_fill knows,
      entries_are_callers_lem writer readers is_cancel knows,
    )

pub beginnings_meet_lem : BeginningsMeet
beginnings_meet_lem one other longer shorter =
    let twice = rw shorter.is at longer.is in
    let none : longer.rest ≡ []
    = nil_from_length longer.rest (omega (arith, simp length-append at (ap length twice))) in
    rw (none, append-nil other) at longer.is
