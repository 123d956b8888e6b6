use Rattle.std.proofs.Common.{◌≡◌, ◌+◌, ◌≤◌, ◌++◌, List, length, None, All, vec_len, vec_items, vec_capacity}
use Rattle.std.specs.Vec.Iter.{into_iter_items, into_iter_len}
use Rattle.std.specs.declared.thread.PromisedHandle.{PromisedHandle}
use Rattle.nr_board.specs.Callers.{Caller}
use Rattle.nr_load.specs.declared.workers.Serving.{Serving}
use Rattle.nr_load.specs.declared.workers.Outcome.{Outcome}
use Rattle.nr_load.specs.Handed.{IsPosterOf}
use Rattle.nr_load.specs.Outcomes.{CarriesFirst}
use Rattle.nr_load.proofs.workers.start_workers.Given as goal

abbrev pub invariant-loop-reader : goal.invariant-loop-reader
invariant-loop-reader g l = record {
  whole : l.refused ≡ None;
  long : into_iter_len l.reader-iterator ≡ length (into_iter_items l.reader-iterator);
  posters : into_iter_len l.posters ≡ into_iter_len l.reader-iterator;
  count : vec_len l.handles + into_iter_len l.reader-iterator ≡ vec_len l.fn.readers;
  room : vec_len l.handles + into_iter_len l.reader-iterator ≤ vec_capacity l.handles;
  own : All (λ (reader : Caller). reader.table ≡ l.shared.service.map) (into_iter_items l.reader-iterator);
  queue : All (IsPosterOf l.shared.service.map l.shared.service.queue) (into_iter_items l.posters);
  carries : (more : List (PromisedHandle Outcome Serving))
      → CarriesFirst l.shared.plan.seed l.shared.plan.gets (into_iter_items l.reader-iterator) more
      → CarriesFirst l.shared.plan.seed l.shared.plan.gets (vec_items l.fn.readers) (vec_items l.handles ++ more);
}
