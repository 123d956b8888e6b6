use Rattle.std.proofs.Common.{arith}
use Rattle.nr_words.proofs.RowPairLemmas.{length-rows_in_words}
use Rattle.nr_words.proofs.row_pairs.RowPairsRowSource.give.Goals as goal

pub row-requires : goal.row-requires
row-requires c = omega (arith, c.requires.more, (length-rows_in_words c.args.self.now.words.now).0)
