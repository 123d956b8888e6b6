use Rattle.std.specs.VecDeque.{deque_len}
use Rattle.nr_load.proofs.under_way.UnderWay.end.Given as goal

abbrev pub decreases-loop-trigger : goal.decreases-loop-trigger
decreases-loop-trigger l = deque_len l.triggers
