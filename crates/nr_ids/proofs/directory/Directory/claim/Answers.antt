use Rattle.std.proofs.Common.{◌≡◌, ◌≢◌, ◌<◌, ap, arith, refl, ◌∙◌, rules}
use Rattle.nr_ids.specs.declared.plan.Plan.{Plan}
use Rattle.nr_ids.specs.Groups.{group_of}
use Rattle.nr_ids.specs.Events.{turn_of}
use Rattle.nr_ids.specs.Tokens.{Opened}
use Rattle.nr_ids.proofs.Seats.{claims_by, claims_group, grows_by, stands}
use Rattle.nr_ids.proofs.directory.Directory.claim.Goals as goal

pub compare_exchange_with-found-requires : goal.compare_exchange_with-found-requires
compare_exchange_with-found-requires c = let plan_is = ap (λ (d : Opened). d.plan) c.self.view_is in
    let low : c.group_of.result < c.args.self.now.plan.groups
    = omega (arith, c.group_of.ensures.inside, ap (λ (plan : Plan). plan.groups) plan_is) in
    claims_group (stands c.self.view_is c.self.invariant) c.requires.caller c.group_of.result c.turn_place-place.result
    c.args.id c.args.was (c.group_of.ensures.value ∙ ap (λ (plan : Plan). group_of plan c.args.id) plan_is) low
    c.turn_place-place.ensures.value c.requires.id c.requires.closed c.requires.early c.requires.scanned

pub returns-clause-won : goal.returns-clause-won
returns-clause-won c = λ hit. let found : c.compare_exchange_with-found.result ≡ c.args.was = search rules in
    claims_by c.args.seat.now c.compare_exchange_with-found.new.seat c.args.id c.compare_exchange_with-found.ensures.0
    (c.compare_exchange_with-found.ensures.2.0 found)

pub returns-clause-lost : goal.returns-clause-lost
returns-clause-lost
    c = λ miss.
    let other : c.compare_exchange_with-found.result ≢ c.args.was = search rules in
    let told = c.compare_exchange_with-found.ensures.2.1 other in (
      grows_by c.args.seat.now c.compare_exchange_with-found.new.seat _ c.compare_exchange_with-found.ensures.0 told.0
          refl,
      λ same. other
          (told.1
          ∙ ap
          (λ (d : Opened). turn_of d.plan c.compare_exchange_with-found.new.seat.me.0.seen
          (group_of d.plan c.args.id))
          c.requires.caller.own
          ∙ same),
    )
