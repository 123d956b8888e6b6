use Rattle.std.specs.Prelude.{◌≡◌, ◌*◌, length, min}
use Rattle.nr_map.specs.FindsEach.{FindsFrom}
use Rattle.nr_map.proofs.FindsEach.{Begun}
use Rattle.nr_map.proofs.reader_map.ReaderMap.find_each.Given as goal

abbrev pub invariant-loop-group : goal.invariant-loop-group
invariant-loop-group g l = record {
  own : l.reader.table ≡ l.self;
  grouped : Begun (FindsFrom g.R.RowRoom.shows) l.fn.reader l.fn.wanted (min (l.group * 16) (length l.fn.wanted))
      l.reader l.wanted;
}
