use Rattle.crossbeam_queue.specs.Passes.{view}
use Rattle.nr_trigger.proofs.Moments.{pass-learns-moment, pop-tells}
use Rattle.nr_trigger.proofs.Passes.{taker-takes}
use Rattle.nr_trigger.proofs.triggers.Triggers.pop.Goals as goal

pub pop_as-requires-clause-rule : goal.pop_as-requires-clause-rule
pop_as-requires-clause-rule g c = (taker-takes _ _ _ c.taker.invariant.1, pass-learns-moment _ _)

pub returns-clause-key : goal.returns-clause-key
returns-clause-key g c =
    rw (← c.taker.view_is)
    (pop-tells _ _ _ c.pop_as.result (view c.pop_as.new.pass) (rw c.taker.invariant.1 at c.pop_as.ensures.rule))
