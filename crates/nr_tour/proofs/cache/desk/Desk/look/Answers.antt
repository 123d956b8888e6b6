use Rattle.std.proofs.Math.Logic.{∥∥₁_map}
use Rattle.nr_tour.proofs.Doing.{looks_so}
use Rattle.nr_tour.proofs.cache.desk.Desk.look.Goals as goal

pub invariant_of-self : goal.invariant_of-self
invariant_of-self c =
    record {
      own = c.look.ensures.own;
      did = ∥∥₁_map c.args.self.now.did (looks_so _ c.args.id _ _ c.look.result c.look.ensures.looks);
    }
