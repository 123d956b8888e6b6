use Rattle.std.proofs.Common.{refl}
use Rattle.nr_trigger.proofs.Moments.{full-moment, pass-learns-moment}
use Rattle.nr_trigger.proofs.triggers.Triggers.obstacle_to_push.Goals as goal

pub is_full_as-requires-clause-rule : goal.is_full_as-requires-clause-rule
is_full_as-requires-clause-rule c = pass-learns-moment _ _

pub returns-then-is_full_as-clause-full : goal.returns-then-is_full_as-clause-full
returns-then-is_full_as-clause-full c _ =
    rw (← c.self.view_is, ← c.poster.view_is)
    (full-moment _ _ _ _ (rw c.poster.invariant.1 at (c.if-is_full_as.ensures.rule refl)))
