use Rattle.nr_words.proofs.KeyWordLemmas.{ask_sets_flag_lem}
use Rattle.nr_words.proofs.laws.ask_sets_flag.Goals as goal

pub returns : goal.returns
returns c = ask_sets_flag_lem
