use Rattle.std.proofs.Common.{ap, ◌∙◌}
use Rattle.nr_c.proofs.open.nr_close_reader.Goals as goal

pub returns-clause-ends : goal.returns-clause-ends
returns-clause-ends c side led =
    let was = ap (λ handle. handle.live) c.is_live.ensures.same ∙ led in
    ((c.close.result, c.leave.ensures, c.close.ensures.ends side was), c.close.ensures.share side was)
