use Rattle.std.proofs.Math.Logic.{∥∥₁_map}
use Rattle.nr_tour.proofs.Doing.{invalidates_so}
use Rattle.nr_tour.proofs.cache.desk.Desk.invalidate.Goals as goal

pub invariant_of-self-2 : goal.invariant_of-self-2
invariant_of-self-2 c =
    record {
      own = c.invalidate-had.ensures.own;
      did =
          rw (c.push_front_reserved.ensures.items, c.reserve.ensures.items)
          (∥∥₁_map c.args.self.now.did
          (invalidates_so _ c.args.id _ _ c.invalidate-had.result c.invalidate-had.ensures.invalidates));
    }
