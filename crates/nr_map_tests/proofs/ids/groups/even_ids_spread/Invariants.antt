use Rattle.std.proofs.Common.{◌<◌}
use Rattle.nr_map_tests.proofs.ids.groups.even_ids_spread.Given as goal

abbrev pub invariant-loop-half : goal.invariant-loop-half
invariant-loop-half g l = record { few : l.without < l.half }
