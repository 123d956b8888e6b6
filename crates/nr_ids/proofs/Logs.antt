-- What legal events leave: an id has at most one way, turns never fall, and while a turn is even and the same no id of
-- its group gets a way.
use Rattle.std.proofs.Common.{◌≡◌, ◌≢◌, ℕ, zero, suc, ◌%◌, ◌<◌, ◌≤◌, Bool, ◌==◌, cond, eq-eqb, ne_eqb, List, [], ◌∷◌}
use Rattle.std.proofs.Common.{◌++◌, refl, ap, arith, append_assoc}
use mathlib.Core.Logic.{dite}
use native.Mathlib.Decide.{ℕ_discrete}
use Rattle.std.proofs.lemmas.Bool.Decides.{nat_tests}
use Rattle.nr_ids.specs.declared.plan.Plan.{Plan}
use Rattle.nr_ids.specs.Groups.{IsWayOf, group_of, places, way_at, ways}
use Rattle.nr_ids.specs.Events.{Event, cleared, maker, own, looks, name_of, turn_of, IsAbsent, IsLegal, IsOpen}
use Rattle.nr_ids.specs.Events.{IsClosed, last_turn}
use Rattle.nr_ids.specs.Scans.{Scanned}

module _ {A : Type 0} (x y : A) where
  pub cond_same : (a b : ℕ) → a ≡ b → cond (a == b) x y ≡ x
  cond_same a b e = ap (λ (t : Bool). cond t x y) (eq-eqb a b e)

  pub cond_else : (a b : ℕ) → a ≢ b → cond (a == b) x y ≡ y
  cond_else a b ne = ap (λ (t : Bool). cond t x y) (ne_eqb a b ne)

-- a caller's own events
pub own_this : (by : ℕ) (event : Event) (log : List Event) → maker event ≡ by
    → own by (event ∷ log) ≡ event ∷ own by log
own_this by event log e = grind (arith, nat_tests)

pub own_append : (by : ℕ) (a b : List Event) → own by (a ++ b) ≡ own by a ++ own by b
own_append by [] b = refl
own_append by (event ∷ a) b = grind (arith, nat_tests, own_append by a b)

-- the names after some events are those after the clerk's alone
pub exact_names : (rest seen : List Event) (way : ℕ) → name_of (rest ++ seen) way ≡ name_of (own 0 rest ++ seen) way
exact_names [] seen way = refl
exact_names (event ∷ rest) seen way = grind (arith, nat_tests, exact_names rest seen way)

pub quiet_names : (rest seen : List Event) (way : ℕ) → own 0 rest ≡ [] → name_of (rest ++ seen) way ≡ name_of seen way
quiet_names rest seen way quiet = rw (exact_names rest seen way, quiet)

-- looks change no name
pub looks_names : (count by : ℕ) (seen : List Event) (way : ℕ) → name_of (looks count by ++ seen) way ≡ name_of seen way
looks_names zero by seen way = refl
looks_names (suc count) by seen way = looks_names count by seen way

-- none of these is a clearing
abbrev pub IsNoClearing : Event → Type 0
IsNoClearing (cleared group) = ⊥
IsNoClearing _ = Unit {0}

abbrev pub ClearsNothing : List Event → Type 0
ClearsNothing [] = Unit {0}
ClearsNothing (event ∷ log) = IsNoClearing event × ClearsNothing log

own_clears_nothing : (by : ℕ) (event : Event) (log : List Event) → ClearsNothing (own by (event ∷ log))
    → ClearsNothing (own by log)
own_clears_nothing by event log quiet = grind (arith, nat_tests)

pub looks_clear_nothing : (count by : ℕ) → ClearsNothing (looks count by)
looks_clear_nothing zero by = tt
looks_clear_nothing (suc count) by = (tt, looks_clear_nothing count by)

module _ (plan : Plan) where
  pub legal_end : (rest log : List Event) → IsLegal plan (rest ++ log) → IsLegal plan log
  legal_end [] log legal = legal
  legal_end (event ∷ rest) log legal = legal_end rest log legal.1

  -- a name stands at a place of its id
  pub named_inside : (log : List Event) (way id : ℕ) → IsLegal plan log → 0 < id → name_of log way ≡ id
      → (way < ways plan) × IsWayOf plan id way
  named_inside [] way id legal real at = absurd (omega arith)
  named_inside (event ∷ log) way id legal real at = grind (arith, nat_tests, named_inside log way id legal.1 real)

  -- an id has at most one way
  pub one_way : (log : List Event) (v w id : ℕ) → IsLegal plan log → 0 < id → name_of log v ≡ id → name_of log w ≡ id
      → v ≡ w
  one_way [] v w id legal real at_v at_w = absurd (omega arith)
  one_way (event ∷ log) v w id legal real at_v at_w = grind (arith, nat_tests, one_way log v w id legal.1 real)

  pub turn_rose : (rest log : List Event) (group : ℕ) → turn_of plan log group ≤ turn_of plan (rest ++ log) group
  turn_rose [] log group = grind arith
  turn_rose (event ∷ rest) log group = grind (arith, turn_rose rest log group)

  -- while the turn of its group stays even and the same, an id gets no way
  pub stays_unnamed : (rest log : List Event) (way id : ℕ) → IsLegal plan (rest ++ log)
      → turn_of plan (rest ++ log) (group_of plan id) ≤ turn_of plan log (group_of plan id)
      → IsClosed plan log (group_of plan id) → 0 < id → name_of log way ≢ id → name_of (rest ++ log) way ≢ id
  stays_unnamed [] log way id legal same closed real other = other
  stays_unnamed (event ∷ rest) log way id legal same closed real other =
      grind (arith, nat_tests, stays_unnamed rest log way id legal.1, turn_rose rest log (group_of plan id))

  -- an odd turn stays where the clerk clears nothing
  pub quiet_turn : (rest log : List Event) (group : ℕ) → ClearsNothing (own 0 rest) → IsLegal plan (rest ++ log)
      → IsOpen plan log group → turn_of plan (rest ++ log) group ≡ turn_of plan log group
  quiet_turn [] log group quiet legal odd = refl
  quiet_turn (event ∷ rest) log group quiet legal odd =
      let was = quiet_turn rest log group (own_clears_nothing 0 event rest quiet) legal.1 odd in
      grind (arith, nat_tests)

  -- no turn goes past the last one, which is even
  pub turn_bounded : (log : List Event) (group : ℕ) → IsLegal plan log → turn_of plan log group ≤ last_turn
  turn_bounded [] group legal = omega arith
  turn_bounded (event ∷ log) group legal = grind (arith, nat_tests, turn_bounded log group legal.1)

  pub open_early : (log : List Event) (group turn : ℕ) → IsLegal plan log → turn ≡ turn_of plan log group → turn % 2 ≡ 1
      → turn < last_turn
  open_early log group turn legal is odd = let bound = turn_bounded log group legal in omega arith

  -- where a turn that was even has changed, there was a moment at which it was odd
  pub was_odd : (rest log : List Event) (group : ℕ) → IsClosed plan log group
      → turn_of plan (rest ++ log) group ≢ turn_of plan log group
      → (moment : List Event) × (later : List Event) × (since : List Event) × (rest ++ log ≡ later ++ moment)
      × (moment ≡ since ++ log) × IsOpen plan moment group
  was_odd [] log group closed changed = absurd (changed refl)
  was_odd (event ∷ rest) log group closed changed =
      dite (ℕ_discrete (turn_of plan (rest ++ log) group) (turn_of plan log group))
      (λ (same : turn_of plan (rest ++ log) group ≡ turn_of plan log group). (
        event ∷ (rest ++ log),
        [],
        event ∷ rest,
        refl,
        refl,
        grind (arith, nat_tests),
      ))
      (λ ne.
      let t = was_odd rest log group closed ne in
      (t.0, event ∷ t.1, t.2, ap (λ (l : List Event). event ∷ l) t.3, t.4, t.5))

-- a scan at whose end the turn is still the one before it shows that no way has the id
pub scan_shows : (plan : Plan) (log seen more : List Event) (id turn : ℕ) → log ≡ more ++ seen → IsLegal plan log
    → 0 < id → turn % 2 ≡ 0 → turn_of plan log (group_of plan id) ≡ turn
    → Scanned plan seen id turn places → IsAbsent log id
scan_shows plan log seen more id turn is legal real even now scan way has =
    let group : ℕ = group_of plan id in
    let at : IsWayOf plan id way = (named_inside plan log way id legal real has).1 in
    let place : ℕ = at.0 in let pass = scan.passed place at.1 in let moment = pass.moment in
    let from : log ≡ (more ++ pass.later) ++ moment = cc (is, pass.until, append_assoc more pass.later moment) in
    let rose : turn_of plan scan.start group ≤ turn_of plan moment group
    = rw pass.from (turn_rose plan pass.since scan.start group) in
    let top = turn_rose plan (more ++ pass.later) moment group in
    let last : turn_of plan ((more ++ pass.later) ++ moment) group ≡ turn = rw from at now in
    let first : turn_of plan scan.start group ≡ turn = scan.turn_is in
    stays_unnamed plan (more ++ pass.later) moment (way_at plan id place) id (rw from at legal) (omega arith)
    (omega arith) real pass.other (rw (← from, at.2) has)
