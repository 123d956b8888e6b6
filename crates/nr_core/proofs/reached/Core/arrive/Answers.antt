use Rattle.nr_core.specs.States.{Arrive}
use Rattle.nr_core.proofs.Reach.{has_room, leads_on}
use Rattle.nr_core.proofs.reached.Core.arrive.Goals as goal

pub arrive-requires : goal.arrive-requires
arrive-requires c = has_room c.self.invariant

pub invariant_of-self : goal.invariant_of-self
invariant_of-self c = rw c.arrive.ensures.new (leads_on (Arrive c.args.reader c.args.key) tt c.self.invariant)
