use Rattle.std.proofs.Common.{◌≡◌}
use Rattle.nr_ids.specs.Groups.{group_of}
use Rattle.nr_serve.specs.Rings.{RingsFor}
use Rattle.nr_idserve.specs.IdHands.{IsReadyFor}
use Rattle.nr_idserve.proofs.IdWaiting.{Slept}
use Rattle.nr_idserve.proofs.tries.get_by_tries.Given as goal

abbrev pub invariant-loop-i : goal.invariant-loop-i
invariant-loop-i g l = record {
  ready : IsReadyFor l.service.map l.service.queue l.hands;
  slept :
      Slept l.service.queue.capacity l.id l.i l.fn.tries (group_of l.service.map.directory.plan l.id) l.fn.hands l.hands
      l.fn.lobby l.lobby;
  rows : l.rows ≡ l.fn.rows;
  rings : RingsFor l.fn.hands.poster l.fn.lobby l.hands.poster l.lobby;
  at_once : l.i ≡ 0 → l.hands ≡ l.fn.hands;
}
