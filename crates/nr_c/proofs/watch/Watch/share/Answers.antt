use Rattle.std.proofs.Common.{arith}
use Rattle.nr_c.proofs.ClosingSteps.{enters}
use Rattle.nr_c.proofs.watch.Watch.share.Goals as goal

pub load_new_seat-seat-requires : goal.load_new_seat-seat-requires
load_new_seat-seat-requires c = (omega (arith, c.behind-word.invariant), enters _)
