use Rattle.std.proofs.Math.Logic.{∥∥₁_map}
use Rattle.nr_tour.proofs.Doing.{ends_apart}
use Rattle.nr_tour.proofs.cache.desk.Desk.end.Goals as goal

pub returns-clause-fresh : goal.returns-clause-fresh
returns-clause-fresh c = ∥∥₁_map c.args.self.did (λ did. did.fresh)

pub returns-clause-apart : goal.returns-clause-apart
returns-clause-apart c = rw c.close.ensures (ends_apart c.stores_in_order.ensures _ _ c.args.self.did)
