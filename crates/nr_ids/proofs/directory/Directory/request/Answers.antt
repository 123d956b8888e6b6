use Rattle.std.proofs.Common.{ap, ◌≡◌, ◌≢◌, rules, arith, refl, subst, sym, ◌∙◌}
use Rattle.nr_ids.specs.declared.plan.Plan.{Plan}
use Rattle.nr_ids.specs.Groups.{group_of, places}
use Rattle.nr_ids.specs.declared.requests.Requested.TheVariants as requested
use Rattle.nr_ids.specs.Answers.{FindsForClaim, LooksForClaim, Requests}
use Rattle.nr_ids.specs.Events.{turn_of}
use Rattle.nr_ids.specs.Scans.{Scanned}
use Rattle.nr_ids.specs.Tokens.{Opened, Token, token}
use Rattle.nr_ids.specs.Looking.{group_for}
use Rattle.nr_ids.proofs.Through.{looks_in_both, outrun}
use Rattle.nr_ids.proofs.directory.Directory.request.Goals as goal
use Rattle.nr_ids.proofs.directory.Directory.request.Goals.{then-claim, else-claim}

pub claim-requires-clause-scanned : goal.claim-requires-clause-scanned
claim-requires-clause-scanned c =
    let first = token c.look_at_turn-turn.new.seat in
    let second = token c.scan.new.seat in
    let id = c.args.id in
    let found = c.look_at_turn-turn.result in
    let missed = c.in_default.ensures.scans in
    let all = (looks_in_both id first second missed.looks).1 in
    subst (λ (d : Opened). Scanned d.plan second.seen id found places) c.look_at_turn-turn.ensures.caller.own
    (record {
      start = first.seen;
      rest = all.rest;
      is = all.seen;
      turn_is = search rules;
      passed = missed.passed;
    })

pub returns-in-Some-clause-answer : goal.returns-in-Some-clause-answer
returns-in-Some-clause-answer c =
    let turn = c.look_at_turn-turn in
    let named = c.in-Some.ensures.scans in
    subst (λ (t : Token). FindsForClaim c.args.id t (token c.scan.new.seat) c.in-Some.way) c.reader.view_is
    (record { turned = token turn.new.seat; turn = turn.ensures.grows; finds = named })

pub returns-clause-answer : goal.returns-clause-answer
returns-clause-answer c =
    let old = token c.reader.inside.seat in
    let first = token c.look_at_turn-turn.new.seat in
    let second = token c.scan.new.seat in
    let third = token c.claim.new.seat in
    let id = c.args.id in
    let found = c.look_at_turn-turn.result in
    let turn = c.look_at_turn-turn.ensures.grows in
    let plan_is : c.args.self.now.plan ≡ old.directory.plan = search rules in
    let value : turn_of old.directory.plan first.seen (group_for old id) ≡ found = search rules in
    let looks = c.in_default.ensures.scans.looks in
    let looks_for : LooksForClaim id old second = record { turned = first; turn = turn; both = looks } in
    subst (λ (t : Token). Requests id t third c.if-claim.result) c.reader.view_is (elim c.if-claim.branch [
      | then-claim w ↦ subst (Requests id old third) (sym w.result-is) (
        record { scanned = second; looks_for = looks_for; wins = c.claim.ensures.won w.if-claim.true },
        w.of.ensures ∙ sym (ap (λ (t : Token). t.directory) c.reader.view_is ∙ c.requires.own),
        refl,
      )
      | else-claim w ↦ let is : c.if-claim.result ≡ requested.Outrun = w.result-is in
          subst (Requests id old third) (sym is) (
            record { scanned = second; looks_for = looks_for; others = (c.claim.ensures.lost w.if-claim.false).0 },
            outrun id found old first second third turn looks value (omega (arith, c.if-turn-eq1.false))
                (c.claim.ensures.lost w.if-claim.false).0
                (subst (λ (p : Plan). turn_of p third.seen (group_of p id) ≢ found) plan_is
                (c.claim.ensures.lost w.if-claim.false).1),
          )
    ])
