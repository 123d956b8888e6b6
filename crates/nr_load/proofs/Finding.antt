-- In the history of a load each find finds the one row that the base has then: the writer's calls obey the base, and so
-- each key that is filled has its row.
use Rattle.std.proofs.Common.{◌≡◌, ◌≢◌, ℕ, zero, suc, ◌+◌, ◌<◌, ◌≤◌, ◌==◌, ◌%◌, nat_lt, Bool, true, false, cond}
use Rattle.std.proofs.Common.{MatchBool, List, [], ◌∷◌, ◌++◌, length, replicate, slice_index, slice_index_or, refl, sym}
use Rattle.std.proofs.Common.{ap, ◌∙◌, subst, arith, eq-eqb, ⊎_elim, length-set, Option, None, Some, Ok}
use Rattle.std.proofs.lemmas.Bool.{cases_eq}
use Rattle.std.proofs.lemmas.Bool.Decides.{nat_tests}
use Rattle.std.proofs.lemmas.List.{get_or-set_same, get_or-set_other, length-replicate}
use Rattle.nr_model.specs.declared.batches.Delta.{Delta}
use Rattle.nr_model.specs.declared.calls.Call.{Call}
use Rattle.nr_model.specs.declared.calls.Call.TheVariants as call
use Rattle.nr_model.specs.declared.calls.Reply.{Reply}
use Rattle.nr_model.specs.declared.states.KeyState.{KeyState}
use Rattle.nr_model.specs.declared.states.KeyState.TheVariants.{Hole, Asked, Rows}
use Rattle.nr_model.specs.Batches.{applied}
use Rattle.nr_model.specs.Histories.{Entry, IsLegal, entries_of, is_done}
use Rattle.nr_model.specs.Maps.{PartialMap, call_key, find_reply, next, reply_to, rows_or, state_after, state_of}
use Rattle.nr_model.proofs.HistoryLemmas.{state_of-next_other, state_of-next_same}
use Rattle.nr_core.proofs.Choices.{on_test}
use Rattle.nr_core.specs.declared.shape.Shape.{Shape}
use Rattle.nr_board.specs.Callers.{Table, map_at_opening}
use Rattle.nr_board.specs.Entries.{AreCallers, IsCallers, is_reading}
use Rattle.nr_load.specs.Base.{FindsRow, FindsRows, FollowsBase, IsRound, Rounds, StepsBase, applies, changed, row_of}
use Rattle.nr_load.specs.Base.{base_deltas}

-- a call of the writer is of the row that the base has
abbrev Fits : List ℕ → Call → Type 0
Fits base (call.Fill key number rows) = rows ≡ row_of key (slice_index base key) ∷ []
Fits base (call.Update key batch) = batch ≡ base_deltas key (slice_index base key)
Fits base (call.Replace key rows) = rows ≡ row_of key (slice_index base key) ∷ []
Fits base _ = Unit {0}

abbrev pub Obeys : List ℕ → List Entry → Type 0
Obeys base [] = Unit {0}
Obeys base (e ∷ es) = Fits base e.call × Obeys (changed base e.call) es

abbrev based : List ℕ → List Entry → List ℕ
based base [] = base
based base (e ∷ es) = based (changed base e.call) es

obeys_both : (base : List ℕ) (es fs : List Entry) → Obeys base es → Obeys (based base es) fs → Obeys base (es ++ fs)
obeys_both base [] fs one two = two
obeys_both base (e ∷ es) fs one two = (one.0, obeys_both (changed base e.call) es fs one.1 two)

based-append : (base : List ℕ) (es fs : List Entry) → based base (es ++ fs) ≡ based (based base es) fs
based-append base [] fs = refl
based-append base (e ∷ es) fs = based-append (changed base e.call) es fs

-- the entries obey the base, and lead to this one
abbrev Leads : List ℕ → List Entry → List ℕ → Type 0
Leads base es base' = Obeys base es × (based base es ≡ base')

steps_lead : (by key : ℕ) (base base' : List ℕ) (batch : Option (List Delta)) → StepsBase key base base' batch
    → Leads base (applies by key batch) base'
steps_lead by key base base' None steps = (tt, sym steps.1)
steps_lead by key base base' (Some batch) steps = ((steps.1, tt), sym steps.2)

changes_lead : (fourth : Bool) (by key : ℕ) (base base' : List ℕ) (later : List Entry)
    → MatchBool fourth
    (((answer : Reply) × (later ≡ record { caller = by; call = call.Evict key; reply = answer } ∷ []))
    × (base' ≡ base))
    ((batch : Option (List Delta)) × StepsBase key base base' batch × (later ≡ applies by key batch))
    → Leads base later base'
changes_lead true by key base base' later is = rw is.0.1 ((tt, tt), sym is.1)
changes_lead false by key base base' later is = rw is.2 (steps_lead by key base base' is.0 is.1)

follows_lead : (by fills key : ℕ) (base : List ℕ) (done : Bool) (later : List Entry) (fills' : ℕ) (base' : List ℕ)
    → FollowsBase by key done later fills base fills' base' → Leads base later base'
follows_lead by fills key base true later fills' base' follows =
    changes_lead (fills' % 4 == 0) by key base base' later follows.1
follows_lead by fills key base false later fills' base' follows = rw follows.1 (tt, sym follows.2)

round_leads : (by fills : ℕ) (base : List ℕ) (round : List Entry) (fills' : ℕ) (base' : List ℕ)
    → IsRound by round fills base fills' base' → Leads base round base'
round_leads by fills base round fills' base' is =
    let rest = follows_lead by fills is.key base (is_done is.answer) is.later fills' base' is.follows in
    rw is.is ((refl, rest.0), rest.1)

pub rounds_lead : (by keys count : ℕ) (entries : List Entry) (fills : ℕ) (base : List ℕ)
    → Rounds by keys count entries fills base → Leads (replicate keys 0) entries base
rounds_lead by keys zero entries fills base rounds = rw rounds.0 (tt, sym rounds.2)
rounds_lead by keys (suc count) entries fills base rounds =
    let before = rounds.0 in let round = rounds.3 in
    let first = rounds_lead by keys count before rounds.1 rounds.2 rounds.4 in
    let last = round_leads by rounds.1 rounds.2 round fills base rounds.5 in
    rw (rounds.6, based-append) (
      obeys_both (replicate keys 0) before round first.0 (rw first.1 last.0),
      rw first.1 last.1,
    )

-- a key in that state has the row of that number, if it is filled
abbrev HasRow : ℕ → ℕ → KeyState → Type 0
HasRow key x (Hole n) = Unit {0}
HasRow key x (Asked n) = Unit {0}
HasRow key x (Rows n rows) = rows ≡ row_of key x ∷ []

-- so has each key the base's row
abbrev pub HasBase : List ℕ → PartialMap → Type 0
HasBase base map = (key : ℕ) → HasRow key (slice_index base key) (state_of map key)

step_applies : (bound key x : ℕ) → 1 ≤ bound
    → applied bound (row_of key x ∷ []) (base_deltas key x) ≡ Ok (row_of key (x + 1) ∷ [])
unfolding applied
step_applies bound key x some = grind (arith, nat_tests)

-- at its own key
own : (bound : ℕ) (base : List ℕ) (c : Call) (s : KeyState) → 1 ≤ bound → call_key c < length base → Fits base c
    → HasRow (call_key c) (slice_index base (call_key c)) s
    → HasRow (call_key c) (slice_index (changed base c) (call_key c)) (state_after bound c s)
own bound base (call.Fill key number set) (Asked n) some near fits has =
    on_test (HasRow key (slice_index base key)) (n == number) {this = Rows n set} {that = Asked n} (λ _. fits) (λ _. tt)
own bound base (call.Update key batch) (Rows n rows) some near fits has =
    let x = slice_index base key in
    let left : applied bound rows batch ≡ Ok (row_of key (x + 1) ∷ [])
    = (λ i. applied bound (has i) (fits i)) ∙ step_applies bound key x some in
    ap (λ r. rows_or r rows) left ∙ ap (λ (n : ℕ). row_of key n ∷ []) (sym (get_or-set_same base key (x + 1) 0 near))
own bound base (call.Replace key set) (Rows n rows) some near fits has = fits
own bound base (call.Cancel key) (Asked n) some near fits has =
    on_test (HasRow key (slice_index base key)) (nat_lt n 4194303) {this = Hole (n + 1)} {that = Asked n} (λ _. tt)
    (λ _. tt)
own bound base (call.Evict key) (Rows n rows) some near fits has = tt
own bound base c (Rows n rows) some near fits has = has
own bound base (call.Find key) (Hole n) some near fits has = tt
own bound base c (Hole n) some near fits has = tt
own bound base c (Asked n) some near fits has = tt

changed-other : (base : List ℕ) (c : Call) (key : ℕ) → call_key c ≢ key
    → slice_index (changed base c) key ≡ slice_index base key
changed-other base (call.Update k batch) key other = get_or-set_other base k key _ 0 (λ same. other (sym same))
changed-other base c key other = refl

length-changed : (base : List ℕ) (c : Call) → length (changed base c) ≡ length base
length-changed base (call.Update k batch) = length-set base k _
length-changed base c = refl

keeps_base : (map : PartialMap) (base : List ℕ) (c : Call) → 1 ≤ map.bound → call_key c < length map.states
    → call_key c < length base → Fits base c → HasBase base map → HasBase (changed base c) (next map c)
keeps_base map base c some within near fits has key = ⊎_elim
    (λ (same : call_key c ≡ key). subst (λ (k : ℕ). HasRow k (slice_index (changed base c) k) (state_of (next map c) k))
    same
    (rw (state_of-next_same map c within)
    (own map.bound base c (state_of map (call_key c)) some near fits (has (call_key c)))))
    (λ (other : call_key c ≢ key).
    rw (changed-other base c key other, state_of-next_other map key c other) (has key))
    (cases_eq (call_key c) key)

finds_state : (base : List ℕ) (key : ℕ) (s : KeyState) → HasRow key (slice_index base key) s
    → FindsRow base (call.Find key) (find_reply s)
finds_state base key (Hole n) has = tt
finds_state base key (Asked n) has = tt
finds_state base key (Rows n rows) has = has

finds_one : (base : List ℕ) (map : PartialMap) (c : Call) → HasBase base map → FindsRow base c (reply_to map c)
finds_one base map (call.Find key) has = finds_state base key (state_of map key) (has key)
finds_one base map c has = tt

-- the calls of readers don't concern the base
passes : (c : Call) (es : List Entry) (base : List ℕ) → is_reading c ≡ true → Obeys base es
    → Fits base c × Obeys (changed base c) es
passes (call.Find key) es base reads obeys = (tt, obeys)
passes (call.Ask key) es base reads obeys = (tt, obeys)
passes c es base reads obeys = absurd (cc)

reads_on : (his : Bool) (e : Entry) (es : List Entry) (base : List ℕ) → is_reading e.call ≡ true
    → Obeys base (cond his (e ∷ es) es) → Fits base e.call × Obeys (changed base e.call) es
reads_on true e es base reads obeys = obeys
reads_on false e es base reads obeys = passes e.call es base reads obeys

obeys_on : (shape : Shape) (e : Entry) (history : List Entry) (base : List ℕ) → IsCallers shape e
    → Obeys base (entries_of (e ∷ history) 0) → Fits base e.call × Obeys (changed base e.call) (entries_of history 0)
obeys_on shape e history base caller obeys = ⊎_elim
    (λ writes. rw (eq-eqb e.caller 0 writes.0) at obeys)
    (λ reads. reads_on (e.caller == 0) e (entries_of history 0) base reads.1 obeys)
    caller.1

pub finds_rows : (shape : Shape) (history : List Entry) (map : PartialMap) (base : List ℕ) → 1 ≤ map.bound
    → length map.states ≡ shape.keys → length base ≡ shape.keys → HasBase base map
    → AreCallers shape history → Obeys base (entries_of history 0) → IsLegal map history → FindsRows base history
finds_rows shape [] map base some size long has callers obeys legal = tt
finds_rows shape (e ∷ history) map base some size long has callers obeys legal =
    let near = callers.0.0 in
    let on = obeys_on shape e history base callers.0 obeys in (
      rw legal.0 (finds_one base map e.call has),
      finds_rows shape history (next map e.call) (changed base e.call) some
          (length-set map.states (call_key e.call) _ ∙ size) (length-changed base e.call ∙ long)
          (keeps_base map base e.call some (omega (arith, near, size)) (omega (arith, near, long)) on.0 has) callers.1
          on.1 legal.1,
    )

opens_hole : (keys at number key x : ℕ) → HasRow key x (slice_index_or (replicate keys (Hole number)) at (Hole 0))
opens_hole (suc keys) (suc at) number key x = opens_hole keys at number key x
opens_hole keys at number key x = tt

-- a new map has only holes
pub opens_with_base : (table : Table) → HasBase (replicate table.shape.keys 0) (map_at_opening table)
opens_with_base table key =
    opens_hole table.shape.keys key table.shape.first_number key (slice_index (replicate table.shape.keys 0) key)

based_long : (base : List ℕ) (es : List Entry) → length (based base es) ≡ length base
based_long base [] = refl
based_long base (e ∷ es) = based_long (changed base e.call) es ∙ length-changed base e.call

-- the base has a number for each key
pub rounds_long : (by keys count : ℕ) (entries : List Entry) (fills : ℕ) (base : List ℕ)
    → Rounds by keys count entries fills base → length base ≡ keys
rounds_long by keys count entries fills base rounds =
    ap (λ (b : List ℕ). length b) (sym (rounds_lead by keys count entries fills base rounds).1)
    ∙ based_long (replicate keys 0) entries ∙ length-replicate keys 0
