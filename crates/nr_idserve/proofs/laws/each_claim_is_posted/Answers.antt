use Rattle.nr_idserve.proofs.IdClaims.{each_claim_is_posted_lem}
use Rattle.nr_idserve.proofs.laws.each_claim_is_posted.Goals as goal

pub returns : goal.returns
returns g c = each_claim_is_posted_lem g.R.RowRoom.shows
