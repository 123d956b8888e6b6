use Rattle.std.proofs.Common.{◌≡◌, ◌<◌}
use Rattle.nr_idmap.specs.Keepers.{id_rows}
use Rattle.nr_serve_tests.proofs.by_id.threads.serves.Given as goal

abbrev pub invariant-loop : goal.invariant-loop
invariant-loop g l =
    (0 < id_rows l.flow.map) × (goal.iterator-loop g).can_next l.iterator'
    × (goal.iterator-loop g).is_finite l.iterator'
