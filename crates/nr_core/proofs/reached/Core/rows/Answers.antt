use Rattle.nr_core.proofs.Reach.{has_room}
use Rattle.nr_core.proofs.reached.Core.rows.Goals as goal

pub returns-clause-positive : goal.returns-clause-positive
returns-clause-positive c = rw c.rows.ensures (has_room c.self.invariant).shape.some

pub returns-clause-bounded : goal.returns-clause-bounded
returns-clause-bounded c = rw c.rows.ensures (has_room c.self.invariant).shape.bound
