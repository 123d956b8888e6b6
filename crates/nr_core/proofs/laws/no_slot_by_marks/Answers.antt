use Rattle.nr_core.proofs.ExactPlace.{no_slot_by_marks_lem}
use Rattle.nr_core.proofs.laws.no_slot_by_marks.Goals as goal

pub returns : goal.returns
returns c = no_slot_by_marks_lem
