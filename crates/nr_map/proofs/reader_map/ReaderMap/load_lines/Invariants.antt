use Rattle.std.specs.Prelude.{take}
use Rattle.nr_board.specs.Callers.{token}
use Rattle.nr_map.specs.LoadsAhead.{LoadsLines, Stays}
use Rattle.nr_map.proofs.reader_map.ReaderMap.load_lines.Given as goal

abbrev pub invariant-loop-place : goal.invariant-loop-place
invariant-loop-place l = record {
  loads : LoadsLines l.sizes (take l.place l.words) (take l.place l.counts) (token l.fn.seat) (token l.seat);
  stays : Stays l.fn.seat l.seat;
}
