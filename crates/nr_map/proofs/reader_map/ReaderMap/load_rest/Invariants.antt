use Rattle.nr_board.specs.Callers.{token}
use Rattle.nr_map.specs.LoadsAhead.{LoadsPlaces, Stays, line_places}
use Rattle.nr_map.proofs.reader_map.ReaderMap.load_rest.Given as goal

abbrev pub invariant-loop-line : goal.invariant-loop-line
invariant-loop-line l = record {
  loads : LoadsPlaces (line_places l.span.first l.last l.line) (token l.fn.seat) (token l.seat);
  stays : Stays l.fn.seat l.seat;
}
