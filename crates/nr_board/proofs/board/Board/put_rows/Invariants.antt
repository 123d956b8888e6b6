use Rattle.std.proofs.Common.{◌*◌, ◌+◌}
use Rattle.nr_board.proofs.Publishing.{PutSoFar}
use Rattle.nr_board.specs.Views.{desk_of}
use Rattle.nr_board.proofs.board.Board.put_rows.Given as goal

abbrev pub invariant-loop-i : goal.invariant-loop-i
invariant-loop-i g l =
    PutSoFar l.self (desk_of l.fn.seat.me.0.role) g.G.BegunCall.call l.rows l.fn.taken.slot l.fn.taken.departures
    l.fn.seat l.seat (2 * l.i + 1)
