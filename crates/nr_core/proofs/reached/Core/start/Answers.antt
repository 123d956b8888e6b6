use Rattle.std.proofs.Common.{[], rules}
use Rattle.nr_core.specs.States.{Start}
use Rattle.nr_core.proofs.Reach.{has_room, leads_on}
use Rattle.nr_core.proofs.reached.Core.start.Goals as goal

pub start-requires-clause-room : goal.start-requires-clause-room
start-requires-clause-room c = has_room c.self.invariant

pub invariant_of-self : goal.invariant_of-self
invariant_of-self c = rw c.start.ensures.new (leads_on (Start c.args.call.now) c.start.ensures.given c.self.invariant)

pub invariant_of-self-in-Going : goal.invariant_of-self-in-Going
invariant_of-self-in-Going c =
    rw c.start.ensures.new (leads_on (Start c.args.call.now) c.start.ensures.given c.self.invariant)

pub invariant_of-self-2 : goal.invariant_of-self-2
invariant_of-self-2 c = rw c.start.ensures.new (leads_on (Start c.args.call.now) c.start.ensures.given c.self.invariant)

pub returns-in_err-outcome-clause-answer : goal.returns-in_err-outcome-clause-answer
returns-in_err-outcome-clause-answer c = let answer = c.in_err-outcome.ensures.answer [] in search rules

pub returns-in-Going-clause-answer : goal.returns-in-Going-clause-answer
returns-in-Going-clause-answer c = let answer = c.in_ok-outcome.ensures.answer [] in search rules
