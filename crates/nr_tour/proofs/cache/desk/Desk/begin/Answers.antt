use Rattle.std.proofs.Math.Logic.{∥∥₁_map}
use Rattle.nr_tour.proofs.Doing.{begins_so}
use Rattle.nr_tour.proofs.cache.desk.Desk.begin.Goals as goal

pub invariant_of-self-2 : goal.invariant_of-self-2
invariant_of-self-2 c =
    record {
      own = c.begin-begun.ensures.own;
      did =
          rw (c.tell_begun.ensures.told, c.reserve.ensures.items)
          (∥∥₁_map c.args.self.now.did
          (begins_so c.args.id 0 _ _ _ c.begin-begun.result c.begin-begun.ensures.begins));
    }
