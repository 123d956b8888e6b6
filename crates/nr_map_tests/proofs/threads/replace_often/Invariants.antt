use Rattle.std.proofs.Common.{◌≡◌}
use Rattle.nr_map_tests.proofs.threads.replace_often.Given as goal

abbrev pub invariant-loop-mark : goal.invariant-loop-mark
invariant-loop-mark l = l.writer.table ≡ l.map
