use Rattle.std.proofs.Common.{◌<◌, false}
use Rattle.nr_serve.proofs.tries.lets_pass.Given as goal

abbrev pub invariant-loop-asked : goal.invariant-loop-asked
invariant-loop-asked g l = 0 < l.asked → g.G.Gate.lets l.shared.gate.now l.shared.reader l.get false
