use Rattle.std.proofs.Common.{arith}
use Rattle.nr_serve.proofs.Counting.{enters}
use Rattle.nr_serve.proofs.counts.Counts.enter.Goals as goal

pub load_new_seat-found-requires : goal.load_new_seat-found-requires
load_new_seat-found-requires c = (omega (arith, c.self.invariant, c.requires), enters _ _)
