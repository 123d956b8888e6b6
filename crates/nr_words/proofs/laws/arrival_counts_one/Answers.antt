use Rattle.nr_words.proofs.KeyWordLemmas.{arrival_counts_one_lem}
use Rattle.nr_words.proofs.laws.arrival_counts_one.Goals as goal

pub returns : goal.returns
returns c = arrival_counts_one_lem
