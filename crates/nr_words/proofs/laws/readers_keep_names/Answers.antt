use Rattle.nr_words.proofs.KeyWordLemmas.{readers_keep_names_lem}
use Rattle.nr_words.proofs.laws.readers_keep_names.Goals as goal

pub returns : goal.returns
returns c = readers_keep_names_lem
