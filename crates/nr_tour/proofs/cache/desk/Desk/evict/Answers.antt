use Rattle.std.proofs.Math.Logic.{∥∥₁_map}
use Rattle.nr_tour.proofs.Doing.{evicts_so}
use Rattle.nr_tour.proofs.cache.desk.Desk.evict.Goals as goal

pub invariant_of-self : goal.invariant_of-self
invariant_of-self c =
    record {
      own = c.evict.ensures.own;
      did = ∥∥₁_map c.args.self.now.did (evicts_so _ c.args.id _ _ c.evict.result c.evict.ensures.evicts);
    }
