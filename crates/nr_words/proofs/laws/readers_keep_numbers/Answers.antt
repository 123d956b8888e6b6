use Rattle.nr_words.proofs.KeyWordLemmas.{readers_keep_numbers_lem}
use Rattle.nr_words.proofs.laws.readers_keep_numbers.Goals as goal

pub returns : goal.returns
returns c = readers_keep_numbers_lem
