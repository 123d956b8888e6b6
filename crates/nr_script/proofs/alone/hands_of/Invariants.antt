use Rattle.std.proofs.Common.{◌≡◌, ◌+◌, ◌≤◌, ◌++◌, length, map, vec_len, vec_items, vec_capacity}
use Rattle.std.specs.Vec.Iter.{into_iter_items, into_iter_len}
use Rattle.nr_map.specs.Hands.{idle}
use Rattle.nr_script.proofs.alone.hands_of.Given as goal

abbrev pub invariant-loop-reader : goal.invariant-loop-reader
invariant-loop-reader l = record {
  long : into_iter_len l.reader-iterator ≡ length (into_iter_items l.reader-iterator);
  room : vec_len l.hands + into_iter_len l.reader-iterator ≤ vec_capacity l.hands;
  gave : vec_items l.hands ++ map idle (into_iter_items l.reader-iterator) ≡ map idle (vec_items l.fn.readers);
}
