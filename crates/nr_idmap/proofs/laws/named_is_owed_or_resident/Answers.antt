use Rattle.nr_idmap.proofs.LedgerLaws.{named_is_owed_or_resident}
use Rattle.nr_idmap.proofs.laws.named_is_owed_or_resident.Goals as goal

pub returns : goal.returns
returns c = named_is_owed_or_resident
