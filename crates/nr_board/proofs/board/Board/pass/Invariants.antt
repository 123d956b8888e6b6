use Rattle.std.proofs.Common.{◌≡◌}
use Rattle.nr_board.specs.Passes.{PassedTo}
use Rattle.nr_board.proofs.board.Board.pass.Given as goal

abbrev pub invariant-loop-place : goal.invariant-loop-place
invariant-loop-place l = (l.lists ≡ l.fn.lists) × PassedTo l.self l.fn.lists l.fn.seat l.seat l.place
