use Rattle.std.proofs.Common.{◌≡◌, ◌+◌, ◌≤◌, ◌++◌, length, vec_len, vec_items, vec_capacity}
use Rattle.std.specs.Vec.Iter.{into_iter_items, into_iter_len}
use Rattle.nr_idmap.specs.IdOpenings.{pairs_from}
use Rattle.nr_idmap.proofs.openings.pair_readers.Given as goal

abbrev pub invariant-loop-reader : goal.invariant-loop-reader
invariant-loop-reader l = record {
  long : into_iter_len l.reader-iterator ≡ length (into_iter_items l.reader-iterator);
  room : vec_len l.paired + into_iter_len l.reader-iterator ≤ vec_capacity l.paired;
  own : l.clerk.directory ≡ l.fn.directory;
  clerk : (l.clerk.number ≡ l.fn.clerk.number) × (l.clerk.seen ≡ l.fn.clerk.seen);
  pairs : vec_items l.paired ++ pairs_from l.fn.directory l.clerk.made (into_iter_items l.reader-iterator)
      ≡ pairs_from l.fn.directory
      l.fn.clerk.made (vec_items l.fn.readers);
}
