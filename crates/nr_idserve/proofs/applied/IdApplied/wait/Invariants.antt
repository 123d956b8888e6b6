use Rattle.std.proofs.Common.{◌≡◌}
use Rattle.nr_serve.specs.Counts.{OnlyLooks}
use Rattle.nr_idserve.proofs.applied.IdApplied.wait.Given as goal

abbrev pub invariant-loop : goal.invariant-loop
invariant-loop g l = (l.reader ≡ l.fn.reader) × OnlyLooks l.fn.lobby l.lobby
