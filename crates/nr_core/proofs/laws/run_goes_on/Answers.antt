use Rattle.nr_core.proofs.Reach.{run_keeps_shape, run_more, story_state}
use Rattle.nr_core.proofs.laws.run_goes_on.Goals as goal

pub returns : goal.returns
returns c = λ shape events event. (run_more shape events event, run_keeps_shape shape events, story_state shape events)
