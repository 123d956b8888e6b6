use Rattle.std.proofs.Common.{ap, refl, subst, ◌∙◌}
use Rattle.nr_c.specs.Endings.{Ends}
use Rattle.nr_c.specs.IdOpenings.{ClosesIdSide}
use Rattle.nr_c.specs.declared.id_writer_side.IdWriterSide.{IdWriterSide}
use Rattle.nr_c.proofs.id_open.nr_close_id_writer.Goals as goal

pub returns-clause-ends : goal.returns-clause-ends
returns-clause-ends c side led =
    let same = c.close-side.ensures.ends side (ap (λ handle. handle.live) c.is_live.ensures.same ∙ led) in
    subst (λ (held : IdWriterSide). Ends (ClosesIdSide held)) same
    (_, c.leave.ensures, record { map = refl; writer = refl; spare = refl; ledger = refl; watch = c.close.ensures })
