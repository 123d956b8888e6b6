use Rattle.nr_trigger.proofs.Passes.{taker-makes-poster}
use Rattle.nr_trigger.proofs.triggers.Triggers.seat_poster.Goals as goal

pub another-seat-requires-clause-rule : goal.another-seat-requires-clause-rule
another-seat-requires-clause-rule g c = taker-makes-poster _ _ _ c.taker.invariant.1
