use Rattle.std.proofs.Common.{Ok, Err, sym}
use Rattle.nr_prog.specs.declared.task.Task.TheVariants.{Load}
use Rattle.nr_prog.proofs.ProgramLemmas.{asked_ends, tells_line}
use Rattle.nr_prog.proofs.program.run_task.Goals as goal

pub returns-in-Ok-clause-ends : goal.returns-in-Ok-clause-ends
returns-in-Ok-clause-ends g c =
    asked_ends g.O.Output.may_fail (Load c.in-Load.plan) _ _ _ _ _ _ (sym c.in-Load.is)
    (Ok c.in-Ok.reported.report, c.in-Ok.ensures.report, c.end_of_report.ensures)

pub returns-in-Err-clause-ends : goal.returns-in-Err-clause-ends
returns-in-Err-clause-ends g c =
    asked_ends g.O.Output.may_fail (Load c.in-Load.plan) _ _ _ _ _ _ (sym c.in-Load.is) (
      Err c.in-Err.fault,
      tt,
      (c.end_with_line.ensures.0, tells_line _ _ _ _ _ c.line_of_load.ensures c.end_with_line.ensures.1),
    )
