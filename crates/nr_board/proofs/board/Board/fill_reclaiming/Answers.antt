use Rattle.nr_board.proofs.Waiting.{given_out, set_later}
use Rattle.nr_board.proofs.WriterCalls.{has_lacked, has_published}
use Rattle.nr_board.proofs.board.Board.fill_reclaiming.Goals as goal

pub returns-in-Ok : goal.returns-in-Ok
returns-in-Ok g c =
    let begun = c.in_ok-begin_fill.ensures in
    let put = c.in-Ok.ensures.publishes in
    let told = has_published (set_later put.0 begun) c.requires.call put.1 in
    record {
      rests = told.0;
      flagged = c.in-Ok.ensures.flagged;
      fills = record {
        steps = put.0;
        published = told.1;
        gives = given_out g.R.RowRoom.shows _ put.1.slot _ _ put.0 c.in-Ok.given begun c.requires.own told.2
            put.2;
      };
    }

pub returns-in-Err : goal.returns-in-Err
returns-in-Err g c =
    let told = has_lacked c.in_ok-begin_fill.ensures c.requires.call c.in-Err.ensures.publishes.0 in
    record { rests = told.0; flagged = c.in-Err.ensures.flagged; fills = (told.1, c.in-Err.ensures.publishes.1) }
