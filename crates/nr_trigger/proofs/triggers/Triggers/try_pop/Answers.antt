use Rattle.std.proofs.Common.{ap, subst, ◌∙◌}
use Rattle.nr_trigger.specs.Tokens.{WasEmpty, taker_seen, taker_tried}
use Rattle.nr_trigger.specs.Views.{taking_of}
use Rattle.nr_trigger.proofs.Moments.{empty-before}
use Rattle.nr_trigger.proofs.Passes.{taker-takes}
use Rattle.nr_trigger.proofs.triggers.Triggers.try_pop.Goals as goal

pub try_pop_as-requires-clause-rule : goal.try_pop_as-requires-clause-rule
try_pop_as-requires-clause-rule c = taker-takes _ _ _ c.taker.invariant.1

pub returns-in-None-clause-empty : goal.returns-in-None-clause-empty
returns-in-None-clause-empty c is = empty-before _ (subst WasEmpty
    ((λ i. taker_seen (c.try_pop_as.ensures.queue.0 i) (taking_of (c.in-None.ensures.rule i))
    (c.then-taker-inside.ensures i))
    ∙ ap taker_tried c.taker.view_is)
    (c.obstacle_to_pop.ensures.empty is))
