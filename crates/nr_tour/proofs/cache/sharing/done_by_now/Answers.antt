use Rattle.std.proofs.Math.Logic.{∥∥₁_map}
use Rattle.nr_tour.specs.Deeds.{EachHeldIsFresh}
use Rattle.nr_tour.proofs.Copies.{copies}
use Rattle.nr_tour.proofs.cache.sharing.done_by_now.Goals as goal

pub returns : goal.returns
returns g c =
    record {
      fresh =
          copies (λ w. w.items) (λ deeds. ∥ EachHeldIsFresh deeds ∥₁) _ _ _ c.clone.result
          (∥∥₁_map c.deref.result.now.did (λ did. did.fresh)) c.clone.ensures.cases;
    }
