use Rattle.nr_core.proofs.ExactPlace.{done_by_marks_lem}
use Rattle.nr_core.proofs.laws.done_by_marks.Goals as goal

pub returns : goal.returns
returns c = done_by_marks_lem
