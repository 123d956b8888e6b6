use Rattle.std.proofs.Common.{arith}
use Rattle.nr_board.specs.Views.{rows_held, view_of}
use Rattle.nr_board.proofs.LaterRows.{set_from}
use Rattle.nr_board.proofs.board.Board.copy_from.Goals as goal

pub refill-requires-clause-row_set : goal.refill-requires-clause-row_set
refill-requires-clause-row_set g c = let fits = set_from c.args.self.now.shape.rows g.row.FROM
    (rows_held (view_of c.args.seat.now).role) c.requires.held.holds.holds.row_set in
    (fits.0, omega (arith, fits.1, c.rows.ensures.value, c.rows.ensures.bounded))
