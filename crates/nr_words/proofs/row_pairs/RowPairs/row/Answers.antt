use Rattle.nr_words.proofs.RowPairLemmas.{row_in_pair}
use Rattle.nr_words.proofs.row_pairs.RowPairs.row.Goals as goal

pub returns : goal.returns
returns c = row_in_pair c.args.self.now.words.now c.args.place c.requires
