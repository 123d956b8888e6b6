use Rattle.nr_core.proofs.Seat.{seats}
use Rattle.nr_core.proofs.laws.seats.Goals as goal

pub returns : goal.returns
returns c = seats
