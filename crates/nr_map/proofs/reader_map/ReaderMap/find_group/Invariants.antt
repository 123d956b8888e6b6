use Rattle.std.specs.Prelude.{◌≡◌}
use Rattle.nr_board.specs.Callers.{Caller}
use Rattle.nr_map.specs.FindsEach.{keys_of}
use Rattle.nr_map.specs.LoadsAhead.{LoadsAhead}
use Rattle.nr_map.proofs.FindsEach.{Begun, Listed}
use Rattle.nr_map.proofs.reader_map.ReaderMap.find_group.Given as goal

abbrev pub invariant-loop-one : goal.invariant-loop-one
invariant-loop-one g l = record {
  own : l.reader.table ≡ l.self;
  ready : Caller;
  loads : LoadsAhead (keys_of l.fn.group) l.fn.reader ready;
  begun : Begun (Listed g.R.RowRoom.shows) ready l.fn.group l.one-index l.reader l.group;
}
