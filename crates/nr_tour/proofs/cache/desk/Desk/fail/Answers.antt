use Rattle.std.proofs.Common.{ap, ◌∙◌}
use Rattle.std.proofs.Math.Logic.{∥∥₁_map}
use Rattle.nr_cache.specs.StoreSeen.{StoreSeen}
use Rattle.nr_tour.proofs.Doing.{fails_so}
use Rattle.nr_tour.proofs.cache.desk.Desk.fail.Goals as goal

pub invariant_of-self : goal.invariant_of-self
invariant_of-self c =
    record {
      own = ap (λ (s : StoreSeen). s.keeper.table) c.fail.ensures.rest ∙ c.args.self.now.own;
      did = ∥∥₁_map c.args.self.now.did (fails_so _ c.args.number _ _ c.fail.result c.fail.ensures);
    }
