use Rattle.nr_model.proofs.HistoryLemmas.{sends_are_answered_lem}
use Rattle.nr_model.proofs.laws.sends_are_answered.Goals as goal

pub returns : goal.returns
returns c = sends_are_answered_lem
