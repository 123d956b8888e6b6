use Rattle.nr_ids.proofs.Admitting.{looked_clerk}
use Rattle.nr_ids.proofs.directory.Directory.id_of.Goals as goal

pub invariant_of-clerk : goal.invariant_of-clerk
invariant_of-clerk c = looked_clerk 1 c.clerk.invariant c.look.ensures.caller c.look.ensures.grows
