use Rattle.nr_core.proofs.Seat.{notes}
use Rattle.nr_core.proofs.laws.notes.Goals as goal

pub returns : goal.returns
returns c = notes
