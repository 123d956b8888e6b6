use Rattle.std.proofs.Common.{◌≡◌, ◌<◌}
use Rattle.nr_idmap.specs.Keepers.{id_rows}
use Rattle.nr_serve_tests.proofs.by_id.sleeps.fills_group.Given as goal

abbrev pub invariant-loop-id : goal.invariant-loop-id
invariant-loop-id g l = (l.flow.map ≡ l.service.map) × (l.flow.queue ≡ l.service.queue) × (0 < id_rows l.flow.map)
