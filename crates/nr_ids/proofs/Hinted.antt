-- Hints: the clerk alone writes them, and a way that has an id's name has the id's hint.
use Rattle.std.proofs.Common.{◌≡◌, ◌≢◌, ℕ, ◌+◌, ◌*◌, ◌/◌, ◌%◌, ◌<◌, List, [], ◌∷◌, ◌++◌, refl, sym, ap, ◌∙◌, arith}
use Rattle.std.proofs.Common.{eq-eqb, ne_eqb}
use mathlib.Core.Logic.{dite}
use native.Mathlib.Decide.{ℕ_discrete}
use Rattle.std.proofs.lemmas.Bool.Decides.{nat_tests}
use Rattle.nr_ids.specs.declared.plan.Plan.{Plan}
use Rattle.nr_ids.specs.Groups.{hint_of, way_in}
use Rattle.nr_ids.specs.Events.{Event, touched, hinted, own, hint_at, hint_in, hints_of, name_of, IsLegal}
use Rattle.nr_ids.specs.Laws.{HintsTell}

-- the hints after some events are those after the clerk's alone
pub exact_hints : (plan : Plan) (rest seen : List Event) (group : ℕ) → IsLegal plan (rest ++ seen)
    → hints_of (rest ++ seen) group ≡ hints_of (own 0 rest ++ seen) group
exact_hints plan [] seen group legal = refl
exact_hints plan (event ∷ rest) seen group legal = grind (arith, nat_tests, exact_hints plan rest seen group legal.1)

pub quiet_hints : (plan : Plan) (rest seen : List Event) (group : ℕ) → own 0 rest ≡ [] → IsLegal plan (rest ++ seen)
    → hints_of (rest ++ seen) group ≡ hints_of seen group
quiet_hints plan rest seen group quiet legal = rw (exact_hints plan rest seen group legal, quiet)

pub hint_real : (plan : Plan) (id : ℕ) → hint_of plan id ≢ 0
unfolding hint_of
hint_real plan id none = absurd (omega (arith, none))

own_hint : (plan : Plan) (log : List Event) (way id : ℕ) → IsLegal plan log → 0 < id → name_of log way ≡ id
    → hint_in log way ≡ hint_of plan id
own_hint plan [] way id legal real at = absurd (omega arith)
own_hint plan (touched by (hinted group hints) ∷ log) way id legal real at =
    let was = own_hint plan log way id legal.1 real at in
    dite (ℕ_discrete group (way / 8))
    (λ (e : group ≡ way / 8). let here : way ≡ way_in group (way % 8) = omega arith in
    rw (eq-eqb group (way / 8) e, ← was, ← e)
    (legal.0.2 (way % 8) (omega arith) (λ none. absurd (omega (arith, real, ap (name_of log) here, at, none)))))
    (λ ne. rw (ne_eqb group (way / 8) ne) was)
own_hint plan (event ∷ log) way id legal real at =
    let on = own_hint plan log way id legal.1 real in let may = legal.0 in grind (arith, nat_tests)

pub hints_tell : HintsTell
hints_tell plan log way id legal real at = (own_hint plan log way id legal real at, hint_real plan id)

-- the hint at a place is its way's
pub hint_there : (log : List Event) (group place : ℕ) → place < 8
    → hint_in log (way_in group place) ≡ hint_at (hints_of log group) place
hint_there log group place low =
    let of : (8 * group + place) / 8 ≡ group = omega arith in
    let at : (8 * group + place) % 8 ≡ place = omega arith in rw (of, at)

-- a way whose hint is another hasn't the id's name, and one without a hint has none
pub other_hint : (plan : Plan) (log : List Event) (group place id : ℕ) → IsLegal plan log → 0 < id → place < 8
    → hint_at (hints_of log group) place ≢ hint_of plan id → name_of log (way_in group place) ≢ id
other_hint plan log group place id legal real low other has =
    other (sym (hint_there log group place low) ∙ own_hint plan log (way_in group place) id legal real has)

pub no_hint : (plan : Plan) (log : List Event) (group place : ℕ) → IsLegal plan log → place < 8
    → hint_at (hints_of log group) place ≡ 0 → name_of log (way_in group place) ≡ 0
no_hint plan log group place legal low none =
    let way : ℕ = way_in group place in
    let own = own_hint plan log way (name_of log way) legal in
    grind (arith, own, hint_real plan (name_of log way), hint_there log group place low)
