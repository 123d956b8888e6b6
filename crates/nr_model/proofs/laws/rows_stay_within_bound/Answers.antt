use Rattle.nr_model.proofs.BoundLemmas.{rows_stay_within_bound_lem}
use Rattle.nr_model.proofs.laws.rows_stay_within_bound.Goals as goal

pub returns : goal.returns
returns c = rows_stay_within_bound_lem
