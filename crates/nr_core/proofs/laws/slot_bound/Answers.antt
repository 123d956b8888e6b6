use Rattle.nr_core.proofs.Schedules.{slot_bound_lem}
use Rattle.nr_core.proofs.laws.slot_bound.Goals as goal

pub returns : goal.returns
returns c = slot_bound_lem
