use Rattle.std.proofs.Common.{subst}
use Rattle.nr_ids.specs.Groups.{group_of}
use Rattle.nr_idserve.specs.IdHands.{IdClientSeen}
use Rattle.nr_idserve.specs.IdWaits.{GetsIdSleeping}
use Rattle.nr_idserve.proofs.client.IdClient.get_within.Goals as goal

pub returns-clause-waits : goal.returns-clause-waits
returns-clause-waits g c =
    subst
    (λ (client : IdClientSeen). GetsIdSleeping g.R.RowRoom.shows
    (record { capacity = client.queue.capacity; id = c.args.id; tries = c.args.tries })
    (group_of client.map.directory.plan c.args.id) client.hands c.args.rows.now client.guest
    c.get_by_tries.new.hands c.get_by_tries.new.rows c.get_by_tries.new.lobby c.get_by_tries.result)
    c.self.view_is c.get_by_tries.ensures.waits
