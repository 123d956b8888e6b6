use Rattle.std.proofs.Common.{refl}
use Rattle.nr_trigger.proofs.Moments.{empty-moment, pass-learns-moment}
use Rattle.nr_trigger.proofs.triggers.Triggers.obstacle_to_pop.Goals as goal

pub is_empty_as-requires-clause-rule : goal.is_empty_as-requires-clause-rule
is_empty_as-requires-clause-rule c = pass-learns-moment _ _

pub returns-then-is_empty_as-clause-empty : goal.returns-then-is_empty_as-clause-empty
returns-then-is_empty_as-clause-empty c _ =
    rw (← c.taker.view_is)
    (empty-moment _ _ _ (rw c.taker.invariant.1 at (c.if-is_empty_as.ensures.rule refl)))
