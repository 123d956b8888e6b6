use Rattle.nr_core.specs.States.{Ask}
use Rattle.nr_core.proofs.Reach.{has_room, leads_on}
use Rattle.nr_core.proofs.reached.Core.ask.Goals as goal

pub ask-requires : goal.ask-requires
ask-requires c = has_room c.self.invariant

pub invariant_of-self : goal.invariant_of-self
invariant_of-self c = rw c.ask.ensures.new (leads_on (Ask c.args.reader c.args.key) tt c.self.invariant)
