use Rattle.nr_board.proofs.WholeScans.{RestingScan}
use Rattle.nr_board.proofs.board.Board.scan_at_rest.Given as goal

abbrev pub invariant-loop-reader : goal.invariant-loop-reader
invariant-loop-reader l = RestingScan l.self l.fn.lists l.fn.seat l.seat l.flags l.reader
