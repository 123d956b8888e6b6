use Rattle.nr_ids.proofs.LawProofs.{one_claim}
use Rattle.nr_ids.proofs.laws.one_claim.Goals as goal

pub returns : goal.returns
returns c = one_claim
