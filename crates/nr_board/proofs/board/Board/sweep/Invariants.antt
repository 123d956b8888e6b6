use Rattle.nr_board.specs.Reaping.{SweptTo}
use Rattle.nr_board.proofs.board.Board.sweep.Given as goal

abbrev pub invariant-loop-place : goal.invariant-loop-place
invariant-loop-place l = SweptTo l.lists l.fn.seat l.seat l.place l.waits
