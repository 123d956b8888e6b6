use Rattle.nr_board.proofs.WriterCalls.{has_lacked, has_published}
use Rattle.nr_board.proofs.board.Board.fill_key.Goals as goal

pub returns-in-Err : goal.returns-in-Err
returns-in-Err g c =
    let told = has_lacked c.in_ok-begin_fill.ensures c.requires.call c.in-Err.ensures.publishes in
    record { rests = told.0; flagged = c.in-Err.ensures.flagged; fills = told.1 }

pub returns : goal.returns
returns g c =
    let told = has_published c.in_ok-begin_fill.ensures c.requires.call c.in_default.ensures.publishes in
    record { rests = told.0; flagged = c.in_default.ensures.flagged; fills = told.1 }
