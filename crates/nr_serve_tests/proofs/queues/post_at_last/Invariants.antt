use Rattle.std.proofs.Common.{◌≡◌, ◌<◌}
use Rattle.nr_serve_tests.proofs.queues.post_at_last.Given as goal

abbrev pub invariant-loop : goal.invariant-loop
invariant-loop g l =
    (l.poster.queue ≡ l.triggers.id) × (l.poster.keys ≡ l.fn.poster.keys) × (l.ticket.key < l.poster.keys)
