-- A key's requests one after another, by the counts of sends, fills and cancels.
use Rattle.std.proofs.Common.{◌≡◌, ◌≤◌, ◌+◌, ◌&&◌, ℕ, Bool, true, List, [], ◌∷◌, ◌++◌, ap, arith}
use Rattle.std.specs.List.{count_by}
use Rattle.std.proofs.lemmas.List.Sums.{sum_by-append}
use Rattle.nr_model.proofs.HistoryLemmas.{one, count_by-cons}
use Rattle.nr_model.specs.declared.states.KeyState.{KeyState}
use Rattle.nr_model.specs.Histories.{Entry, after, fills_key, is_done}
use Rattle.nr_model.specs.Laws.{AnswersFitTheirRequests, LegalBegins, NumbersCountCancels, SendsAreAnswered, pending}
use Rattle.nr_model.specs.Maps.{PartialMap, opening, state_of}
use Rattle.nr_serve.specs.Requests.{CancelledIsStale, OneAtATime, is_sent, took_back}

abbrev is_fill : ℕ → Entry → Bool
is_fill key e = fills_key key e.call && is_done e.reply

-- an entry counts once where the test is true of it
counts_last : (test : Entry → Bool) (l : List Entry) (e : Entry)
    → count_by test (l ++ e ∷ []) ≡ count_by test l + one (test e)
counts_last test l e = grind (arith, sum_by-append, count_by-cons)

counts : (test : Entry → Bool) (l : List Entry) (e : Entry) (m : List Entry)
    → count_by test ((l ++ e ∷ []) ++ m) ≡ count_by test l + one (test e) + count_by test m
counts test l e m = grind (arith, sum_by-append, counts_last)

-- a history with one entry more, and with others and another one behind it
adds : (test : Entry → Bool) (before between : List Entry) (x y : Entry)
    → (count_by test (before ++ x ∷ []) ≡ count_by test before + one (test x))
    × (count_by test (((before ++ x ∷ []) ++ between) ++ y ∷ [])
    ≡ count_by test before + one (test x) + count_by test between + one (test y))
adds test before between x y = grind (arith, counts_last, counts)

-- a request is no fill and no cancel
no_end : (key : ℕ) (e : Entry) → is_sent key e ≡ true → one (is_fill key e) + one (took_back key e) ≡ 0
no_end key e sent = grind arith

few : (state : KeyState) → pending state ≤ 1
few state = grind arith

pub one_at_a_time_lem : SendsAreAnswered → LegalBegins → OneAtATime
one_at_a_time_lem answered begins keys bound first key before between one_sent two_sent legal low is_one is_two =
    let map : PartialMap = opening keys bound first in
    let h1 : List Entry = before ++ one_sent ∷ [] in
    let h2 : List Entry = h1 ++ between in
    let legal2 = begins map h2 (two_sent ∷ []) legal in
    let legal1 = begins map h1 between legal2 in
    let legal0 = begins map before (one_sent ∷ []) legal1 in
    omega (
      arith,
      answered keys bound first key before legal0 low,
      answered keys bound first key h1 legal1 low,
      answered keys bound first key (h2 ++ two_sent ∷ []) legal low,
      few (state_of (after map (h2 ++ two_sent ∷ [])) key),
      counts (is_sent key) before one_sent between,
      counts (is_fill key) before one_sent between,
      counts (took_back key) before one_sent between,
      adds (is_sent key) before between one_sent two_sent,
      adds (is_fill key) before between one_sent two_sent,
      adds (took_back key) before between one_sent two_sent,
      ap one is_one,
      ap one is_two,
      no_end key one_sent is_one,
      no_end key two_sent is_two,
    )

pub cancelled_is_stale_lem : NumbersCountCancels → AnswersFitTheirRequests → LegalBegins → CancelledIsStale
cancelled_is_stale_lem numbers fit begins keys bound first key number rows before between cancel fill legal low took
    early is_fill done =
    let map : PartialMap = opening keys bound first in
    let h1 : List Entry = before ++ cancel ∷ [] in
    let h2 : List Entry = h1 ++ between in
    let legal1 = begins map h1 between (begins map h2 (fill ∷ []) legal) in
    let was = numbers keys bound first key before (begins map before (cancel ∷ []) legal1) low in
    let is = (fit keys bound first key number h2 fill legal low).1 rows is_fill done in
    omega (arith, was.0, is, early, counts (took_back key) before cancel between, ap one took)
