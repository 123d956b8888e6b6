use Rattle.std.proofs.Common.{subst, sym, ◌<◌}
use Rattle.nr_core.proofs.Reach.{has_room, number_shown}
use Rattle.nr_core.specs.States.{State}
use Rattle.nr_core.specs.Parts.{machine_state}
use Rattle.nr_core.proofs.reached.Core.number.Goals as goal

pub number-requires-clause-listed : goal.number-requires-clause-listed
number-requires-clause-listed c = (has_room c.self.invariant).numbers

pub returns-clause-shown : goal.returns-clause-shown
returns-clause-shown c =
    let near : c.args.key < (machine_state c.self.inside.machine).shape.keys
    = subst (λ (s : State). c.args.key < s.shape.keys) (sym c.self.view_is) c.requires in
    rw (sym c.self.view_is)
    (rw c.number.ensures (number_shown (machine_state c.self.inside.machine) c.self.invariant c.args.key near))
