use Rattle.nr_core.specs.Parts.{machine_state}
use Rattle.nr_core.specs.Slots.{bound_of}
use Rattle.nr_core.proofs.machine.Machine.start.Goals as goal

pub returns-in_err-may_start-clause-given : goal.returns-in_err-may_start-clause-given
returns-in_err-may_start-clause-given c =
    c.given.ensures (bound_of (machine_state c.args.self.now).shape) c.requires.fits

pub returns-clause-given : goal.returns-clause-given
returns-clause-given c = c.given.ensures (bound_of (machine_state c.args.self.now).shape) c.requires.fits
