use Rattle.std.proofs.Common.{◌≡◌, ◌≤◌, length}
use Rattle.std.specs.VecDeque.{deque_capacity}
use Rattle.nr_load.specs.UnderWay.{TakesMore}
use Rattle.nr_load.proofs.under_way.UnderWay.take_more.Given as goal

abbrev pub invariant-loop-taken : goal.invariant-loop-taken
invariant-loop-taken g l = record {
  takes : TakesMore l.fn.flow l.fn.self l.flow
      (record { most = l.self-inside.most; posts = l.self-inside.triggers.items });
  count : length l.self-inside.triggers.items ≡ l._taken;
  end : l._taken-end ≡ l.fn.self.most;
  room : l.self-inside.most ≤ deque_capacity l.self-inside.triggers;
}
