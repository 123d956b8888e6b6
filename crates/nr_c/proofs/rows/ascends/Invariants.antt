use Rattle.std.proofs.Common.{◌≤◌}
use Rattle.nr_words.proofs.OrderLemmas.{AscendsTo}
use Rattle.nr_c.proofs.rows.ascends.Given as goal

abbrev pub invariant-loop-place : goal.invariant-loop-place
invariant-loop-place l = record { some : 1 ≤ l.place; ordered : AscendsTo l.rows l.place }
