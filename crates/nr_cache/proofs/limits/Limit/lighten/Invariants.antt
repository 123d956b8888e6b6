use Rattle.std.proofs.Common.{◌≡◌, ◌<◌, ◌≤◌}
use Rattle.nr_idmap.specs.Keepers.{OwesSame}
use Rattle.nr_cache.specs.Places.{LightensFor}
use Rattle.nr_cache.specs.Values.{BringsValues, values_in}
use Rattle.nr_cache.specs.Weights.{OnlyValuesWeigh, stock_of, value_at}
use Rattle.nr_cache.proofs.limits.Limit.lighten.Given as goal

abbrev pub invariant-too_heavy : goal.invariant-too_heavy
invariant-too_heavy l = record {
  own : l.writer.table ≡ l.map;
  owes : OwesSame l.initial.writer l.writer;
  values : BringsValues l.writer;
  only : OnlyValuesWeigh l.self.weights l.writer;
  hand : l.self.hand < l.map.map.shape.keys;
  most : l.self.weights.most ≡ l.initial.self.weights.most;
  lightens : LightensFor l.bound l.way l.weight
      (stock_of l.initial.writer l.initial.self.weights l.initial.self.hand)
      (stock_of l.writer l.self.weights l.self.hand);
  mine : value_at l.writer l.way ≡ value_at l.initial.writer l.way;
  fewer : values_in l.writer ≤ values_in l.initial.writer;
  asker : l.writer.asker ≡ l.initial.writer.asker;
  same : l.self.capacity ≡ l.initial.self.capacity;
}

abbrev pub decreases-too_heavy : goal.decreases-too_heavy
decreases-too_heavy l = values_in l.writer
