use Rattle.nr_words.proofs.SetWordLemmas.{decode_undoes_encode_lem}
use Rattle.nr_words.proofs.laws.decode_undoes_encode.Goals as goal

pub returns : goal.returns
returns c = decode_undoes_encode_lem
