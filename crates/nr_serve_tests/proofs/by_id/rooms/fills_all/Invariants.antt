use Rattle.std.proofs.Common.{◌≡◌, ◌<◌}
use Rattle.nr_idmap.specs.Keepers.{id_rows}
use Rattle.nr_serve_tests.proofs.by_id.rooms.fills_all.Given as goal

abbrev pub invariant-loop-id : goal.invariant-loop-id
invariant-loop-id g l = (l.flow.map ≡ l.fn.flow.map) × (0 < id_rows l.flow.map)
