use Rattle.nr_model.proofs.LawLemmas.{ordered_stay_lem}
use Rattle.nr_model.proofs.laws.ordered_stay.Goals as goal

pub returns : goal.returns
returns c = ordered_stay_lem
