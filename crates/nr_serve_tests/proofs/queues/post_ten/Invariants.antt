use Rattle.std.proofs.Common.{◌≡◌}
use Rattle.nr_serve_tests.proofs.queues.post_ten.Given as goal

abbrev pub invariant-loop-key : goal.invariant-loop-key
invariant-loop-key g l = (l.poster.queue ≡ l.triggers.id) × (l.poster.keys ≡ 20) × (l.reader.table ≡ l.map)
