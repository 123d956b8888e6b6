use Rattle.std.proofs.Common.{◌≡◌, None}
use Rattle.nr_load.specs.UnderWay.{AreBelow}
use Rattle.nr_load.proofs.Turning.{SoFar}
use Rattle.nr_load.proofs.flow.turn_on.Given as goal

abbrev pub invariant-loop : goal.invariant-loop
invariant-loop g l = record {
  map : l.flow.map ≡ l.fn.flow.map;
  none : l.flow.kept ≡ None;
  near : AreBelow l.flow.map.shape.keys l.under_way.posts;
  far : SoFar l.fn.flow l.flow l.under_way.posts l.fills;
  lobby : l.guest.lobby ≡ l.fn.shared.service.lobby;
}
