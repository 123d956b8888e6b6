use Rattle.nr_trigger.specs.Tokens.{IsSeated}
use Rattle.nr_trigger.proofs.triggers.seat_posters.Given as goal

abbrev pub ghost-seat_poster : goal.ghost-seat_poster
ghost-seat_poster g a = g.limits

abbrev pub invariant-loop-number : goal.invariant-loop-number
invariant-loop-number g l = IsSeated l.triggers.id g.limits l.taker l.posters.items l.number
