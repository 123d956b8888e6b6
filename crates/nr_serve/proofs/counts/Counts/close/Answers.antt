use Rattle.std.proofs.Common.{rules, arith}
use Rattle.nr_serve.proofs.Counting.{closes}
use Rattle.nr_serve.proofs.counts.Counts.close.Goals as goal

pub fetch_max-requires : goal.fetch_max-requires
fetch_max-requires c = (search rules, omega (arith, c.self.invariant), closes _ _ _)
