use Rattle.std.proofs.Common.{◌≡◌, ◌<◌, ℕ}
use Rattle.nr_idmap.specs.Keepers.{name_at}
use Rattle.nr_cache.specs.Places.{OwesNone, TakesEach}
use Rattle.nr_cache.specs.Values.{BringsValues}
use Rattle.nr_cache.specs.Weights.{Lightens, OnlyValuesWeigh}
use Rattle.nr_cache.proofs.clearing.take_all.Given as goal

abbrev pub invariant-loop-way : goal.invariant-loop-way
invariant-loop-way l = record {
  own : l.writer.table ≡ l.map;
  owes : OwesNone l.writer;
  values : BringsValues l.writer;
  only : OnlyValuesWeigh l.weights l.writer;
  lightens : Lightens l.initial.writer l.initial.weights l.writer l.weights;
  takes : TakesEach l.way l.initial.writer l.writer;
  none : (other : ℕ) → other < l.way → name_at l.writer other ≡ 0;
}
