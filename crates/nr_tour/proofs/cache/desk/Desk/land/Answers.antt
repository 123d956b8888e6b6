use Rattle.std.proofs.Math.Logic.{∥∥₁_map}
use Rattle.nr_tour.proofs.Doing.{lands_so}
use Rattle.nr_tour.proofs.cache.desk.Desk.land.Goals as goal

pub invariant_of-self-2 : goal.invariant_of-self-2
invariant_of-self-2 c =
    record {
      own = c.land-landed.ensures.own;
      did =
          rw (c.tell_landed.ensures.told, c.reserve.ensures.items)
          (∥∥₁_map c.args.self.now.did
          (lands_so c.holds_fresh.ensures _ c.args.number 1 c.args.value 1 0 _ _ _ _ c.land-landed.result
          c.land-landed.ensures.lands));
    }
