use Rattle.std.proofs.Common.{◌≡◌, ◌≢◌, ◌<◌, ℕ}
use Rattle.nr_idmap.specs.IdChoices.{StaysButClerk}
use Rattle.nr_idmap.specs.Keepers.{name_at}
use Rattle.nr_cache.proofs.limits.any_other.Given as goal

abbrev pub invariant-loop-way : goal.invariant-loop-way
invariant-loop-way l = record {
  own : l.writer.table ≡ l.map;
  stays : StaysButClerk l.initial.writer l.writer;
  none : (other : ℕ) → other < l.way → other ≢ l.newcomer → name_at l.writer other ≡ 0;
}
