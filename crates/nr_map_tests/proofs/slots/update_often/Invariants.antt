use Rattle.std.proofs.Common.{◌≡◌}
use Rattle.nr_map_tests.proofs.slots.update_often.Given as goal

abbrev pub invariant-loop-turn : goal.invariant-loop-turn
invariant-loop-turn l = l.writer.table ≡ l.map
