use Rattle.std.proofs.Common.{◌≡◌}
use Rattle.nr_map_tests.proofs.threads.find_often.Given as goal

abbrev pub invariant-loop : goal.invariant-loop
invariant-loop l = l.reader.table ≡ l.map
