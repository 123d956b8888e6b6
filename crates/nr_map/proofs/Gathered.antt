-- After rounds of gathers the writer's history is that of all callers.
use Rattle.std.proofs.Common.{◌≡◌, ◌≢◌, ℕ, suc, ◌+◌, ◌<◌, Bool, ◌&&◌, cond, List, [], ◌∷◌, length, refl, sym, ap, ◌∙◌}
use Rattle.std.proofs.Common.{arith, eq-eqb, ne_eqb, get_or, count_by}
use Rattle.nr_model.proofs.HistoryLemmas.{count_by-cons, sends_are_answered_lem}
use Rattle.nr_model.specs.Histories.{Entry, asks, entries_of, cancels_key, fills_key, is_cancelled, is_done, is_send}
use Rattle.nr_core.proofs.Sums.{below-change, below-first, below-same, below-zero}
use Rattle.nr_core.specs.declared.shape.Shape.{Shape}
use Rattle.nr_core.specs.Sums.{below, total}
use Rattle.nr_board.proofs.Gathering.{just_calls}
use Rattle.nr_board.specs.Callers.{Caller}
use Rattle.nr_board.specs.Entries.{AreCallers, IsCallers}
use Rattle.nr_map.specs.Rounds.{EntriesAreCallers, RoundsTellAll, SendsOfAll}
use Rattle.nr_core.specs.Slots.{bound_of}

pub rounds_tell_all_lem : RoundsTellAll
rounds_tell_all_lem log readers calls
    heard = λ at other low. just_calls log (get_or readers at other) (calls at other low) (heard at other low)

-- A history is counted index by index, as by callers or by keys: of the entries of each index those that a test tells.
module _ (shape : Shape) (index : Entry → ℕ) (n : ℕ) (low : (e : Entry) → IsCallers shape e → index e < n)
    (test : Entry → Bool) (counts : ℕ → List Entry → ℕ) (none : (at : ℕ) → counts at [] ≡ 0)
    (own : (e : Entry) (log : List Entry) → counts (index e) (e ∷ log) ≡ cond (test e) 1 0 + counts (index e) log)
    (other : (at : ℕ) (e : Entry) (log : List Entry) → at ≢ index e → counts at (e ∷ log) ≡ counts at log) where
  pub by_index : (log : List Entry) → AreCallers shape log → below (λ at. counts at log) n ≡ count_by test log
  by_index [] callers = below-same (λ at. counts at []) (λ _. 0) n (λ at _. none at) ∙ below-zero n
  by_index (e ∷ log) callers =
      omega (
        arith,
        below-change (λ at. counts at log) (λ at. counts at (e ∷ log)) n (index e) (low e callers.0)
            (λ at isnt. sym (other at e log isnt)),
        own e log,
        by_index log callers.1,
        count_by-cons test e log,
      )

caller_low : (shape : Shape) (e : Entry) → IsCallers shape e → e.caller < suc shape.readers
caller_low shape e is = grind arith

entries_own : (test : Entry → Bool) (e : Entry) (log : List Entry)
    → count_by test (entries_of (e ∷ log) e.caller) ≡ cond (test e) 1 0 + count_by test (entries_of log e.caller)
entries_own test e log = rw (eq-eqb e.caller e.caller refl) (count_by-cons test e (entries_of log e.caller))

entries_other : (test : Entry → Bool) (caller : ℕ) (e : Entry) (log : List Entry) → caller ≢ e.caller
    → count_by test (entries_of (e ∷ log) caller) ≡ count_by test (entries_of log caller)
entries_other test caller e log isnt = rw (ne_eqb e.caller caller (λ is. isnt (sym is))) refl

-- a sum over the readers, in the order of their numbers
in_order : (f : Caller → ℕ) (g : ℕ → ℕ) (readers : List Caller)
    → ((at : ℕ) (other : Caller) → at < length readers → g at ≡ f (get_or readers at other))
    → below g (length readers) ≡ total f readers
in_order f g [] same = refl
in_order f g (reader ∷ readers) same =
    omega (
      arith,
      below-first g (length readers),
      same 0 reader (omega arith),
      in_order f (λ at. g (suc at)) readers (λ at other low. same (suc at) other (omega arith)),
    )

pub entries_are_callers_lem : EntriesAreCallers
entries_are_callers_lem writer readers test knows =
    let log = writer.seen in
    let g : ℕ → ℕ = λ caller. count_by test (entries_of log caller) in
    let n : ℕ = length readers in
    let shape = writer.table.shape in
    let all
    = by_index shape (λ (e : Entry). e.caller) (suc shape.readers) (caller_low shape) test
    (λ caller log. count_by test (entries_of log caller)) (λ caller. refl) (entries_own test) (entries_other test) log
    knows.callers in
    let of_writer : g 0 ≡ count_by test writer.mine
    = ap (count_by test) (ap (entries_of log) (sym knows.number) ∙ knows.own) in
    let of_readers = in_order (λ (reader : Caller). count_by test reader.mine) (λ at. g (suc at)) readers
    (λ at other low. ap (count_by test)
    (ap (entries_of log)
    (let next : suc at ≡ (get_or readers at other).number = omega (arith, knows.numbers at other low) in next)
    ∙ knows.each at other low)) in
    omega (arith, below-first g n, ap (λ (m : ℕ). below g (suc m)) knows.count)

pub sends_of_all_lem : SendsOfAll
sends_of_all_lem writer readers key knows near = let shape = writer.table.shape in
    let sent = entries_are_callers_lem writer readers (λ e. asks key e.call && is_send e.reply) knows in
    let filled = entries_are_callers_lem writer readers (λ e. fills_key key e.call && is_done e.reply) knows in
    let cancelled
    = entries_are_callers_lem writer readers (λ e. cancels_key key e.call && is_cancelled e.reply) knows in
    omega
    (arith, sends_are_answered_lem shape.keys (bound_of shape) shape.first_number key writer.seen knows.legal near)
