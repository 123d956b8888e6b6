use Rattle.nr_core.specs.States.{Go}
use Rattle.nr_core.proofs.Reach.{has_room, leads_on}
use Rattle.nr_core.proofs.reached.Core.go.Goals as goal

pub go-requires : goal.go-requires
go-requires c = has_room c.self.invariant

pub invariant_of-self : goal.invariant_of-self
invariant_of-self c = rw c.go.ensures.new (leads_on Go tt c.self.invariant)

pub invariant_of-self-in-Going : goal.invariant_of-self-in-Going
invariant_of-self-in-Going c = rw c.go.ensures.new (leads_on Go tt c.self.invariant)

pub invariant_of-self-2 : goal.invariant_of-self-2
invariant_of-self-2 c = rw c.go.ensures.new (leads_on Go tt c.self.invariant)
