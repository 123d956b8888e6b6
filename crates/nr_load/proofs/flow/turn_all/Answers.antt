use Rattle.nr_load.specs.declared.fault.LoadFault.TheVariants as faults
use Rattle.nr_load.proofs.Turning.{turns_none}
use Rattle.nr_load.proofs.flow.turn_all.Goals as goal

pub returns-in_default : goal.returns-in_default
returns-in_default g c = turns_none c.args.flow.now faults.Memory
