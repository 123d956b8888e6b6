use Rattle.nr_core.specs.States.{Depart}
use Rattle.nr_core.proofs.Reach.{has_room, leads_on}
use Rattle.nr_core.proofs.reached.Core.depart.Goals as goal

pub depart-requires : goal.depart-requires
depart-requires c = has_room c.self.invariant

pub invariant_of-self : goal.invariant_of-self
invariant_of-self c = rw c.depart.ensures.new (leads_on (Depart c.args.reader) tt c.self.invariant)
