-- A filled key has its set as long as readers alone make calls; so an update's set is the key's before the update's
-- entry.
use Rattle.std.proofs.Common.{◌≡◌, ℕ, ◌<◌, true, List, [], ◌∷◌, ◌++◌, drop, get_or, length, refl}
use Rattle.std.proofs.Common.{sym, ap, ◌∙◌, subst, arith, append_assoc, append-nil, length-append}
use mathlib.Core.Logic.{dite}
use native.Mathlib.Decide.{ℕ_discrete}
use Rattle.nr_model.specs.declared.calls.Call.{Call}
use Rattle.nr_model.specs.declared.calls.Call.TheVariants as model
use Rattle.nr_model.specs.declared.rows.Row.{Row}
use Rattle.nr_model.specs.declared.states.KeyState.TheVariants as states
use Rattle.nr_model.specs.Histories.{Entry, after, entries_of}
use Rattle.nr_model.specs.Maps.{call_key, state_after, state_of}
use Rattle.nr_core.proofs.Histories.{of-append, state_other, state_same}
use Rattle.nr_core.specs.Story.{map_after}
use Rattle.nr_core.specs.declared.shape.Shape.{Shape}
use Rattle.nr_board.proofs.Entries.{callers_before, callers_of_more}
use Rattle.nr_board.specs.WriterAnswers.{KeyHad}
use Rattle.nr_board.specs.Callers.{Caller, Grows, KnowsOwn, Table, map_at_opening}
use Rattle.nr_board.specs.Entries.{AreCallers, IsCallers, is_reading}
use Rattle.nr_core.specs.Slots.{bound_of}
use Rattle.std.proofs.lemmas.List.{nil_from_length}

-- a find or a request leaves a filled key
reading_leaves : (bound : ℕ) (call : Call) (number : ℕ) (rows : List Row) → is_reading call ≡ true
    → state_after bound call (states.Rows number rows) ≡ states.Rows number rows
reading_leaves bound (model.Find key) number rows reads = refl
reading_leaves bound (model.Ask key) number rows reads = refl
reading_leaves bound other number rows reads = absurd (cc)

-- an entry of a reader, where none is the writer's
reads_first : (shape : Shape) (e : Entry) (log : List Entry) → IsCallers shape e → entries_of (e ∷ log) 0 ≡ []
    → (is_reading e.call ≡ true) × (entries_of log 0 ≡ [])
reads_first shape e log is none = let who = is.1 in (grind arith, grind arith)

-- the set stays
set_stays : (shape : Shape) (key number : ℕ) (rows : List Row) (log more : List Entry) → key < shape.keys
    → AreCallers shape more
    → entries_of more 0 ≡ [] → state_of (map_after shape log) key ≡ states.Rows number rows
    → state_of (map_after shape (log ++ more)) key ≡ states.Rows number rows
set_stays shape key number rows log [] near callers none had =
    ap (λ (l : List Entry). state_of (map_after shape l) key) (append-nil log) ∙ had
set_stays shape key number rows log (e ∷ more) near callers none had =
    let first = reads_first shape e more callers.0 none in
    let now = dite (ℕ_discrete key (call_key e.call))
    (λ same. ap (state_of (map_after shape (log ++ e ∷ []))) same
    ∙ state_same shape log e (subst (λ (k : ℕ). k < shape.keys) same near)
    ∙ ap (state_after (bound_of shape) e.call) (ap (state_of (map_after shape log)) (sym same) ∙ had)
    ∙ reading_leaves (bound_of shape) e.call number rows first.0)
    (λ other. state_other shape log e key other ∙ had) in
    ap (λ (l : List Entry). state_of (map_after shape l) key) (sym (append_assoc log (e ∷ []) more))
    ∙ set_stays shape key number rows (log ++ e ∷ []) more near callers.1 first.1 now

-- what a caller learnt between has none of its own entries
pub none_between : (steps : ℕ) (old : Caller) (entries : List Entry) (new : Caller) → KnowsOwn old
    → entries_of entries old.number ≡ entries → (grows : Grows steps entries old new)
    → entries_of grows.between old.number ≡ []
none_between steps old entries new own ours grows =
    let n : ℕ = old.number in
    let all = (λ j. entries_of new.seen (sym grows.number j)) ∙ grows.own ∙ grows.mine in
    let parts = ap (λ (l : List Entry). entries_of l n) grows.seen ∙ of-append n (old.seen ++ grows.between) entries
    ∙ (λ j. (of-append n old.seen grows.between j) ++ ours j)
    ∙ ap (λ (l : List Entry). (l ++ entries_of grows.between n) ++ entries) own in
    nil_from_length (entries_of grows.between n)
    (omega (
      arith,
      ap length (sym parts ∙ all),
      length-append (old.mine ++ entries_of grows.between n) entries,
      length-append old.mine (entries_of grows.between n),
      length-append old.mine entries,
    ))

-- lists that are equal with a last element each are equal without
pub before_last : (xs ys : List Entry) (a b : Entry) → xs ++ a ∷ [] ≡ ys ++ b ∷ [] → xs ≡ ys
before_last [] [] a b is = refl
before_last [] (y ∷ ys) a b is = absurd (omega (arith, ap length is, length-append ys (b ∷ [])))
before_last (x ∷ xs) [] a b is = absurd (omega (arith, ap length is, length-append xs (a ∷ [])))
before_last (x ∷ xs) (y ∷ ys) a b is = λ j. get_or (is j) 0 x ∷ before_last xs ys a b (ap (drop 1) is) j

-- the set that the key had it has until the caller's next entry
pub stays_between : (shape : Shape) (key number : ℕ) (rows : List Row) (mid new : Caller) (steps : ℕ)
    (entries : List Entry)
    → mid.table.shape ≡ shape
    → key < shape.keys → mid.number ≡ 0 → KnowsOwn mid → entries_of entries 0 ≡ entries
    → (then : Grows steps entries mid new)
    → state_of (map_after shape mid.seen) key ≡ states.Rows number rows
    → state_of (map_after shape (mid.seen ++ then.between)) key ≡ states.Rows number rows
stays_between shape key number rows mid new steps entries sized near writes own ours then had =
    let none = ap (entries_of then.between) (sym writes)
    ∙ none_between steps mid entries new own (ap (entries_of entries) writes ∙ ours) then in
    let callers = callers_of_more shape mid.seen then.between (callers_before shape (mid.seen ++ then.between) entries
    (subst (λ (p : Shape × List Entry). AreCallers p.0 p.1) (λ j. (sized j, then.seen j)) then.callers)) in
    set_stays shape key number rows mid.seen then.between near callers none had

-- a set that the key had in the middle of a call, it had before the call's entry
pub had_before : (shape : Shape) (key number : ℕ) (rows : List Row) (old mid new : Caller) (steps after_steps : ℕ)
    (entries mine : List Entry)
    → old.table.shape ≡ shape → key < shape.keys → mid.number ≡ 0 → KnowsOwn mid → entries_of entries 0 ≡ entries
    → (then : Grows after_steps entries mid new) → (all : Grows steps mine old new)
    → (old.seen ++ all.between ≡ mid.seen ++ then.between) → mid.table ≡ old.table
    → state_of (map_after shape mid.seen) key ≡ states.Rows number rows → KeyHad key rows old all.between
had_before shape key number rows old mid new steps after_steps entries mine sized near writes own ours then all same
    table had =
    let now
    = stays_between shape key number rows mid new after_steps entries (ap (λ (t : Table). t.shape) table ∙ sized)
    near writes own ours then had in (
      number,
      ap (λ (l : List Entry). state_of (after (map_at_opening old.table) l) key) same
          ∙ ap (λ (s : Shape). state_of (map_after s (mid.seen ++ then.between)) key) sized ∙ now,
    )
