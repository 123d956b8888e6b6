use Rattle.nr_serve.proofs.Counting.{opens}
use Rattle.nr_serve.proofs.counts.Counts.open.Goals as goal

pub of_words-requires : goal.of_words-requires
of_words-requires c = opens
