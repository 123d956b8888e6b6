use Rattle.nr_core.specs.States.{Read}
use Rattle.nr_core.proofs.Reach.{has_room, leads_on}
use Rattle.nr_core.proofs.reached.Core.read.Goals as goal

pub read-requires : goal.read-requires
read-requires c = has_room c.self.invariant

pub invariant_of-self : goal.invariant_of-self
invariant_of-self c = rw c.read.ensures.new (leads_on (Read c.args.reader c.args.index) tt c.self.invariant)
