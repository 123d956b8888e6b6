use Rattle.nr_board.proofs.WholeScans.{SearchScans}
use Rattle.nr_board.proofs.board.Board.scan_words.Given as goal

abbrev pub invariant-loop-own : goal.invariant-loop-own
invariant-loop-own l = SearchScans l.self l.fn.lists l.fn.seat l.seat l.flags l.own
