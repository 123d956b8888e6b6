use Rattle.nr_idmap.proofs.LedgerLaws.{heard_finds}
use Rattle.nr_idmap.proofs.laws.heard_finds.Goals as goal

pub returns : goal.returns
returns c = heard_finds
