use Rattle.std.proofs.Common.{◌≡◌, ◌+◌, ◌≤◌, ◌++◌, length, map, None, vec_len, vec_items, vec_capacity}
use Rattle.std.specs.Vec.Iter.{into_iter_items, into_iter_len}
use Rattle.nr_load.specs.Outcomes.{answered_in, earliest, made_in, reader_of, sends_in}
use Rattle.nr_load.proofs.load.collect.Given as goal

abbrev pub invariant-loop-outcome : goal.invariant-loop-outcome
invariant-loop-outcome l = record {
  long : into_iter_len l.outcome-iterator ≡ length (into_iter_items l.outcome-iterator);
  room : vec_len l.readers + into_iter_len l.outcome-iterator ≤ vec_capacity l.readers;
  made_are : l.made + made_in (into_iter_items l.outcome-iterator) ≡ made_in (vec_items l.fn.outcomes);
  sends_are : l.sends + sends_in (into_iter_items l.outcome-iterator) ≡ sends_in (vec_items l.fn.outcomes);
  answered_are : l.answered + answered_in (into_iter_items l.outcome-iterator) ≡ answered_in (vec_items l.fn.outcomes);
  fault_is : earliest l.fault (into_iter_items l.outcome-iterator) ≡ earliest None (vec_items l.fn.outcomes);
  gave : vec_items l.readers ++ map reader_of (into_iter_items l.outcome-iterator)
      ≡ map reader_of (vec_items l.fn.outcomes);
}
