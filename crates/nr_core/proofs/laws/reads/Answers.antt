use Rattle.nr_core.proofs.ReaderSteps.{reads}
use Rattle.nr_core.proofs.laws.reads.Goals as goal

pub returns : goal.returns
returns c = reads
