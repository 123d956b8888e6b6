use Rattle.std.proofs.Common.{◌≡◌, length, arith}
use Rattle.std.specs.Vec.Iter.{into_iter_items}
use Rattle.nr_load.proofs.Settling.{all_joined}
use Rattle.nr_load.proofs.workers.join_all.Goals as goal

pub returns : goal.returns
returns g c =
    let none : length (into_iter_items c.loop-handle.handle-iterator) ≡ 0
    = omega (arith, c.loop-handle.invariant.long, c.in-None.ensures.steps.0) in
    all_joined _ (into_iter_items c.loop-handle.handle-iterator) _ none c.loop-handle.invariant.kept
