use Rattle.std.proofs.Common.{◌≡◌}
use Rattle.nr_serve_tests.proofs.by_id.applied.answers.Given as goal

abbrev pub invariant-loop : goal.invariant-loop
invariant-loop g l = (l.flow.map ≡ l.fn.flow.map) × (l.flow.lobby ≡ l.fn.flow.lobby)
