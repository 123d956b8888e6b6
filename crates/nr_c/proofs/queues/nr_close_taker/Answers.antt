use Rattle.std.proofs.Common.{ap, subst, ◌∙◌}
use Rattle.nr_c.specs.Endings.{HasEnded}
use Rattle.nr_c.specs.declared.taker_side.TakerSide.{TakerSide}
use Rattle.nr_c.proofs.queues.nr_close_taker.Goals as goal

pub returns-clause-ends : goal.returns-clause-ends
returns-clause-ends c side led =
    let same = c.close.ensures.ends side (ap (λ handle. handle.live) c.is_live.ensures.same ∙ led) in
    subst (λ (held : TakerSide). HasEnded held) same c.leave.ensures
