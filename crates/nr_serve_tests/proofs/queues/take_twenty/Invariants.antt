use Rattle.std.proofs.Common.{◌≡◌, ◌≤◌}
use Rattle.nr_serve_tests.proofs.queues.take_twenty.Given as goal

abbrev pub invariant-loop : goal.invariant-loop
invariant-loop g l = (l.taker.queue ≡ l.triggers.id) × (l.count ≤ 20)
