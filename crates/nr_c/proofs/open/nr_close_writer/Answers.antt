use Rattle.std.proofs.Common.{ap, refl, subst, ◌∙◌}
use Rattle.nr_c.specs.Endings.{Ends}
use Rattle.nr_c.specs.Openings.{ClosesSide}
use Rattle.nr_c.specs.declared.writer_side.WriterSide.{WriterSide}
use Rattle.nr_c.proofs.open.nr_close_writer.Goals as goal

pub returns-clause-ends : goal.returns-clause-ends
returns-clause-ends c side led =
    let same = c.close-side.ensures.ends side (ap (λ handle. handle.live) c.is_live.ensures.same ∙ led) in
    subst (λ (held : WriterSide). Ends (ClosesSide held)) same
    (_, c.leave.ensures, record { map = refl; writer = refl; spare = refl; room = refl; watch = c.close.ensures })
