use Rattle.nr_model.proofs.HistoryLemmas.{numbers_count_cancels_lem}
use Rattle.nr_model.proofs.laws.numbers_count_cancels.Goals as goal

pub returns : goal.returns
returns c = numbers_count_cancels_lem
