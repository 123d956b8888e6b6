use Rattle.std.proofs.Common.{◌≡◌, ◌≤◌}
use Rattle.nr_core.specs.Sums.{below}
use Rattle.nr_load.specs.Balance.{Stays}
use Rattle.nr_board.specs.Callers.{IsSound}
use Rattle.nr_load.proofs.Gathering.{pending_at}
use Rattle.nr_load.proofs.tally.count_asked.Given as goal

abbrev pub invariant-loop-key : goal.invariant-loop-key
invariant-loop-key l = record {
  stays : Stays l.fn.writer l.writer;
  sound : IsSound l.fn.writer → IsSound l.writer;
  few : l.asked ≤ l.key;
  exact : l.writer.seen ≡ l.fn.writer.seen → l.asked ≡ below (pending_at l.fn.writer) l.key;
}
