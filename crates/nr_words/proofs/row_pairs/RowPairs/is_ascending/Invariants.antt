use Rattle.std.proofs.Common.{◌≤◌}
use Rattle.nr_words.specs.SetWords.{rows_in}
use Rattle.nr_words.proofs.OrderLemmas.{AscendsTo}
use Rattle.nr_words.proofs.row_pairs.RowPairs.is_ascending.Given as goal

abbrev pub invariant-loop-place : goal.invariant-loop-place
invariant-loop-place l = record { some : 1 ≤ l.place; ordered : AscendsTo (rows_in l.self.words.now) l.place }
