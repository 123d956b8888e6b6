-- The laws.
use Rattle.std.proofs.Common.{◌≡◌, ℕ, ◌<◌, ◌⊎◌, ⊎_elim, inl, inr, List, [], ◌∷◌, ◌++◌, refl, sym, ap, ◌∙◌, subst, arith}
use Rattle.std.proofs.Common.{append_assoc, Option, Some, None}
use Rattle.std.proofs.lemmas.Bool.Decides.{nat_tests}
use Rattle.nr_ids.specs.declared.plan.Plan.{Plan}
use Rattle.nr_ids.specs.Groups.{group_of}
use Rattle.nr_ids.specs.Events.{Event, May, named, unnamed, cleared, claimed, name_of, IsLegal, IsOpen}
use Rattle.nr_ids.specs.Laws.{OneClaim, OneNaming, TurnCounts, FindsWhatItHeard, FindsWhatItKnew, Has}
use Rattle.nr_ids.specs.Answers.{LooksUp}
use Rattle.nr_ids.specs.Tokens.{Token, Within}
use Rattle.nr_ids.proofs.Logs.{legal_end, named_inside, one_way}
use Rattle.nr_ids.proofs.Through.{looks_in_both, looks_up, looks_up_to}

has_on : (event first : Event) (rest : List Event) → Has event rest → Has event (first ∷ rest)
has_on event first rest was = (first ∷ was.0, was.1, ap (λ (l : List Event). first ∷ l) was.2)

-- what each event but one keeps holds until that one
until : (plan : Plan) (Holds : List Event → Type 0) (ends : Event)
    → ((event : Event) (log : List Event) → May plan log event → Holds log → (event ≡ ends) ⊎ Holds (event ∷ log))
    → (rest log : List Event) → IsLegal plan (rest ++ log) → Holds log → Has ends rest ⊎ Holds (rest ++ log)
until plan Holds ends keeps [] log legal holds = inr holds
until plan Holds ends keeps (event ∷ rest) log legal holds =
    ⊎_elim (λ has. inl (has_on ends event rest has))
    (λ here. ⊎_elim (λ is. inl ([], rest, ap (λ (e : Event). e ∷ rest) is)) (λ still. inr still)
    (keeps event (rest ++ log) legal.0 here)) (until plan Holds ends keeps rest log legal.1 holds)

-- an odd turn stays so until a clearing
odd_until_cleared : (plan : Plan) (rest log : List Event) (group : ℕ) → IsLegal plan (rest ++ log)
    → IsOpen plan log group → Has (cleared group) rest ⊎ IsOpen plan (rest ++ log) group
odd_until_cleared plan rest log group =
    until plan (λ seen. IsOpen plan seen group) (cleared group) (λ event seen may odd. grind (arith, nat_tests))
    rest log

pub one_claim : OneClaim
one_claim plan rest log by id other twin legal same =
    let first = legal_end plan rest (claimed other twin ∷ log) legal.1 in
    grind (arith, nat_tests, odd_until_cleared plan rest (claimed other twin ∷ log) (group_of plan id) legal.1, first.0)

-- a name stays until it is taken
stays : (plan : Plan) (rest log : List Event) (way id : ℕ) → IsLegal plan (rest ++ log) → 0 < id → name_of log way ≡ id
    → Has (unnamed way) rest ⊎ (name_of (rest ++ log) way ≡ id)
stays plan rest log way id legal real =
    until plan (λ seen. name_of seen way ≡ id) (unnamed way) (λ event seen may at. grind (arith, nat_tests)) rest log
    legal

pub one_naming : OneNaming
one_naming plan rest log way first id legal =
    let before = legal_end plan rest (named first id ∷ log) legal.1 in
    grind (arith, nat_tests, stays plan rest (named first id ∷ log) first id legal.1, before.0)

pub turn_counts : TurnCounts
turn_counts plan [] group = refl
turn_counts plan (event ∷ log) group = grind (arith, nat_tests, turn_counts plan log group)

has_before : (event : Event) (later since : List Event) → Has event since → Has event (later ++ since)
has_before event [] since has = has
has_before event (first ∷ later) since has = has_on event first (later ++ since) (has_before event later since has)

has_after : (event : Event) (since before : List Event) → Has event since → Has event (since ++ before)
has_after event since before has =
    (has.0, has.1 ++ before, ap (λ (l : List Event). l ++ before) has.2 ∙ append_assoc has.0 (event ∷ has.1) before)

-- a moment within a call, and what came since
module _ (plan : Plan) (old new : Token) (moment : List Event) (within : Within old new moment)
    (legal : IsLegal plan new.seen) where
  within_all : new.seen ≡ (within.later ++ within.since) ++ old.seen
  within_all = rw (within.until, within.from, append_assoc)

  legal_then : IsLegal plan (within.since ++ old.seen)
  legal_then = legal_end plan within.later (within.since ++ old.seen) (rw (within_all, append_assoc) at legal)

  -- at that moment a name stood there still, or it was taken since
  stood : (way id : ℕ) → 0 < id → name_of old.seen way ≡ id
      → (name_of moment way ≡ id) ⊎ ((rest : List Event) × (new.seen ≡ rest ++ old.seen) × Has (unnamed way) rest)
  stood way id real at =
      ⊎_elim
      (λ gone. inr (
        within.later ++ within.since,
        within_all,
        has_before (unnamed way) within.later within.since gone,
      ))
      (λ still. inl (rw within.from still))
      (stays plan within.since old.seen way id legal_then real at)

pub finds_what_it_knew : FindsWhatItKnew
finds_what_it_knew id way old new (Some found) real knows looks =
    let plan = old.directory.plan in
    let name = looks.named in
    let all = (looks_up_to found id old new looks.looks).1 in
    let legal : IsLegal plan name.moment
    = subst (IsLegal plan) (sym name.within.from) (legal_then plan old new name.moment name.within all.legal) in
    ⊎_elim
    (λ still. inl (ap Some (one_way plan name.moment found way id legal real name.had still)))
    (λ gone. inr gone)
    (stood plan old new name.moment name.within all.legal way id real knows.has)
finds_what_it_knew id way old new None real knows looks =
    let absent = looks.1 in
    ⊎_elim
    (λ still. absurd (absent.absent way still))
    (λ gone. inr gone)
    (stood old.directory.plan old new absent.moment absent.within (looks_in_both id old new looks.0).1.legal way id real
    knows.has)

-- what a look-up adds
grown : (id : ℕ) (old new : Token) (found : Option ℕ) → LooksUp id old new found
    → (rest : List Event) × (new.seen ≡ rest ++ old.seen) × IsLegal old.directory.plan old.seen
grown id old new found looks = let all = (looks_up id old new found looks).1 in (
  all.rest,
  all.seen,
  legal_end old.directory.plan all.rest old.seen (subst (IsLegal old.directory.plan) all.seen all.legal),
)

pub finds_what_it_heard : FindsWhatItHeard
finds_what_it_heard note id way old new found real has begins looks =
    let plan = old.directory.plan in
    let on = grown id old new found looks in
    let since : List Event = begins.0 in
    ⊎_elim
    (λ gone. inr (
      on.0 ++ since,
      simp (on.1, begins.1, append_assoc),
      has_before (unnamed way) on.0 since gone,
    ))
    (λ still. let here : name_of old.seen way ≡ id = rw begins.1 still in ⊎_elim
    (λ there. inl there)
    (λ (gone : (rest : List Event) × (new.seen ≡ rest ++ old.seen) × Has (unnamed way) rest).
    inr (
      gone.0 ++ since,
      simp (gone.1, begins.1, append_assoc),
      has_after (unnamed way) gone.0 since gone.2,
    ))
    (finds_what_it_knew id way old new found real
    (record { inside = (named_inside plan old.seen way id on.2 real here).0; has = here }) looks))
    (stays plan since note.seen way id (subst (IsLegal plan) begins.1 on.2) real has)
