use Rattle.std.proofs.Common.{◌≡◌}
use Rattle.nr_board.proofs.Searching.{Searched}
use Rattle.nr_board.proofs.board.Board.poll_retired.Given as goal

abbrev pub invariant-loop-place : goal.invariant-loop-place
invariant-loop-place g l =
    (l.lists ≡ l.fn.lists) × Searched l.self g.G.BegunCall.call l.rows l.fn.lists l.fn.seat l.seat l.place
