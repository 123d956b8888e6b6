use Rattle.nr_prog.proofs.ScheduleLemmas.{schedule_runs_lem}
use Rattle.nr_prog.proofs.schedule.laws.schedule_runs.Goals as goal

pub returns : goal.returns
returns c = schedule_runs_lem
