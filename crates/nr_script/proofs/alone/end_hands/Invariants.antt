use Rattle.std.proofs.Common.{◌≡◌, All}
use Rattle.nr_script.proofs.alone.end_hands.Given as goal

abbrev pub invariant-loop-hand : goal.invariant-loop-hand
invariant-loop-hand l = record { own : All (λ s. s.reader.table ≡ l.fn.map) l.hands.items }

abbrev pub decreases-loop-hand : goal.decreases-loop-hand
decreases-loop-hand l = goal.left-loop-hand l
