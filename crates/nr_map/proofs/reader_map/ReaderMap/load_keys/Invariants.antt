use Rattle.std.specs.Prelude.{◌≡◌, length, take}
use Rattle.nr_board.specs.Callers.{token}
use Rattle.nr_map.specs.LoadsAhead.{LoadsKeys, Stays}
use Rattle.nr_map.proofs.reader_map.ReaderMap.load_keys.Given as goal

abbrev pub invariant-loop-place : goal.invariant-loop-place
invariant-loop-place l = record {
  loads : LoadsKeys (take l.place l.keys) (take l.place l.words) (token l.fn.seat) (token l.seat);
  stays : Stays l.fn.seat l.seat;
  room : length l.words ≡ 16;
}
