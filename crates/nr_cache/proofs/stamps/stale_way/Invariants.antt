use Rattle.std.proofs.Common.{◌≡◌, ◌≢◌, ◌≤◌, ◌<◌, ℕ}
use Rattle.nr_cache.specs.Stamps.{IsStale, LooksAround, stamp_at}
use Rattle.nr_cache.proofs.stamps.stale_way.Given as goal

abbrev pub invariant-loop-way : goal.invariant-loop-way
invariant-loop-way l = record {
  own : l.writer.table ≡ l.map;
  looks : LooksAround l.initial.writer l.writer;
  none : (other : ℕ) → l.hand ≤ other → other < l.way → other ≢ l.newcomer
      → IsStale l.bound (stamp_at l.writer other) → ⊥;
}
