use Rattle.nr_idmap.proofs.LedgerLaws.{tied_reads_as_ids}
use Rattle.nr_idmap.proofs.laws.tied_reads_as_ids.Goals as goal

pub returns : goal.returns
returns c = tied_reads_as_ids
