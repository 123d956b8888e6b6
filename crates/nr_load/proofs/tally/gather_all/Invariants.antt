use Rattle.std.proofs.Common.{◌≡◌, ◌<◌, ◌≤◌, ℕ, get_or}
use Rattle.nr_board.specs.Callers.{Caller, IsSound}
use Rattle.nr_load.specs.Balance.{Stays}
use Rattle.nr_load.specs.Gathers.{Hears}
use Rattle.nr_load.proofs.tally.gather_all.Given as goal

abbrev pub invariant-loop-reader : goal.invariant-loop-reader
invariant-loop-reader l = record {
  stays : Stays l.fn.writer l.writer;
  sound : 0 < l.reader-index → IsSound l.writer;
  done : (at : ℕ) (other : Caller) → at < l.reader-index
      → Hears l.fn.writer.seen (get_or l.fn.readers at other) l.writer.seen (get_or l.readers at other);
  rest : (at : ℕ) (other : Caller) → l.reader-index ≤ at → get_or l.readers at other ≡ get_or l.fn.readers at other;
}
