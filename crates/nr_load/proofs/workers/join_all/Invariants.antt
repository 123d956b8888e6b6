use Rattle.std.proofs.Common.{◌≡◌, ◌+◌, ◌≤◌, ◌++◌, List, length, vec_len, vec_items, vec_capacity}
use Rattle.std.specs.Vec.Iter.{into_iter_items, into_iter_len}
use Rattle.nr_load.specs.declared.workers.Outcome.{Outcome}
use Rattle.nr_load.specs.Outcomes.{KeptBy}
use Rattle.nr_load.proofs.workers.join_all.Given as goal

abbrev pub invariant-loop-handle : goal.invariant-loop-handle
invariant-loop-handle g l = record {
  long : into_iter_len l.handle-iterator ≡ length (into_iter_items l.handle-iterator);
  room : vec_len l.outcomes + into_iter_len l.handle-iterator ≤ vec_capacity l.outcomes;
  kept : (more : List Outcome) → KeptBy (into_iter_items l.handle-iterator) more
      → KeptBy (vec_items l.fn.handles) (vec_items l.outcomes ++ more);
}
