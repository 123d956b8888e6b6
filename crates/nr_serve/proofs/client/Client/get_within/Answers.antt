use Rattle.std.proofs.Common.{subst}
use Rattle.nr_serve.specs.Clients.{ClientSeen}
use Rattle.nr_serve.specs.Waits.{GetsSleeping}
use Rattle.nr_serve.proofs.Waiting.{called_in_time}
use Rattle.nr_serve.proofs.Moving.{serves_on}
use Rattle.nr_serve.proofs.client.Client.get_within.Goals as goal

pub invariant_of-self : goal.invariant_of-self
invariant_of-self g c =
    let fields = c.self.inside in
    let got = c.get_by_tries in
    let called = called_in_time _ _ _ _ _ _ got.result got.ensures.gets in
    serves_on fields.shared.map.now fields.shared.triggers.now fields.opened.value fields.hands got.new.hands _ _
    c.self.invariant got.ensures.ready called.moves

pub returns-clause-waits : goal.returns-clause-waits
returns-clause-waits g c =
    subst
    (λ (client : ClientSeen _). GetsSleeping c.args.key c.args.tries client.hands c.args.rows.now client.guest
    c.get_by_tries.new.hands c.get_by_tries.new.rows c.get_by_tries.new.lobby c.get_by_tries.result)
    c.self.view_is c.get_by_tries.ensures.waits
