use Rattle.std.proofs.Common.{subst}
use Rattle.nr_ids.specs.Answers.{Admits}
use Rattle.nr_ids.specs.Tokens.{Token, token}
use Rattle.nr_ids.proofs.Admitting.{admission, looked_clerk, looks_of_names, refusal_looks}
use Rattle.nr_ids.proofs.Through.{looks_for_claim}
use Rattle.nr_ids.proofs.directory.Directory.admit.Goals as goal

pub invariant_of-clerk : goal.invariant_of-clerk
invariant_of-clerk c =
    let old = token c.clerk.inside.seat in
    let looked = refusal_looks c.args.id old (token c.answer_claim.new.seat) c.in_err-turn.field-0.0
    c.in_err-turn.ensures.answer.0 in
    looked_clerk looked.0 c.clerk.invariant c.answer_claim.ensures.clerk looked.1

pub give-requires-clause-hints : goal.give-requires-clause-hints
give-requires-clause-hints c = let looked = looks_for_claim c.in_ok-turn.ensures.answer.0 in
    looks_of_names looked.0 c.clerk.invariant.1 looked.1 c.clerk.invariant.2

pub returns-clause-answer : goal.returns-clause-answer
returns-clause-answer c =
    let new = token c.give.new.seat in
    subst (λ (t : Token). Admits c.args.id t new c.give.result) c.clerk.view_is
    (admission new c.give.result c.clerk.invariant.1 c.in_ok-turn.ensures.answer c.give.ensures.gives)
