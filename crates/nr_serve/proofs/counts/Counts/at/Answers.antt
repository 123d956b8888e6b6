use Rattle.std.proofs.Common.{rules, arith}
use Rattle.nr_serve.proofs.Counting.{looks}
use Rattle.nr_serve.proofs.counts.Counts.at.Goals as goal

pub load-requires : goal.load-requires
load-requires c = (search rules, omega (arith, c.self.invariant, c.requires.place), looks _ _ _ _ c.requires.place)
