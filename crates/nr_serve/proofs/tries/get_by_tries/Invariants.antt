use Rattle.std.proofs.Common.{◌≡◌, ◌-◌}
use Rattle.nr_serve.specs.Hands.{IsReady}
use Rattle.nr_serve.specs.Rings.{Rings}
use Rattle.nr_serve.proofs.Waiting.{Slept}
use Rattle.nr_serve.proofs.tries.get_by_tries.Given as goal

abbrev pub invariant-loop-i : goal.invariant-loop-i
invariant-loop-i g l = record {
  ready : IsReady l.shared.map.now l.shared.triggers.now l.hands;
  rows : l.rows ≡ l.fn.rows;
  slept : Slept l.key l.i (l.fn.tries - 1) l.fn.hands l.hands l.fn.lobby l.lobby;
  rings : Rings l.fn.hands l.fn.lobby l.hands l.lobby;
  at_once : l.i ≡ 0 → l.hands ≡ l.fn.hands;
}
