use Rattle.nr_core.specs.States.{FindAgain}
use Rattle.nr_core.proofs.Reach.{has_room, leads_on}
use Rattle.nr_core.proofs.reached.Core.find_again.Goals as goal

pub find_again-requires : goal.find_again-requires
find_again-requires c = has_room c.self.invariant

pub invariant_of-self : goal.invariant_of-self
invariant_of-self c = rw c.find_again.ensures.new (leads_on (FindAgain c.args.reader c.args.key) tt c.self.invariant)
