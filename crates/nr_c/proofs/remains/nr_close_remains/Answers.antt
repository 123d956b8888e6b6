use Rattle.std.proofs.Common.{ap, subst, ◌∙◌}
use Rattle.nr_c.specs.Endings.{HasEnded}
use Rattle.nr_c.specs.declared.remains_side.RemainsSide.{RemainsSide}
use Rattle.nr_c.proofs.remains.nr_close_remains.Goals as goal

pub returns-clause-ends : goal.returns-clause-ends
returns-clause-ends c side led =
    let same = c.close.ensures.ends side (ap (λ handle. handle.live) c.is_live.ensures.same ∙ led) in
    subst (λ (held : RemainsSide). HasEnded held) same c.leave.ensures
