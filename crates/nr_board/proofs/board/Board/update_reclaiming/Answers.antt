use Rattle.std.proofs.Common.{Ok, ap, refl, sym, ◌+◌, ◌∙◌}
use Rattle.nr_core.specs.States.{key_of}
use Rattle.nr_board.proofs.Waiting.{given_out, grows_with, set_later}
use Rattle.nr_board.proofs.WriterCalls.{has_not_updated, has_renewed, has_updated}
use Rattle.nr_board.proofs.board.Board.update_reclaiming.Goals as goal

pub publish_reclaiming-requires : goal.publish_reclaiming-requires
publish_reclaiming-requires g c =
    let begun = c.in_ok-begin_update.ensures in
    let is = begun.3 ∙ ap Ok (sym c.as_slice.ensures.value) in
    record {
      settles = rw c.requires.call (has_renewed begun.2 is).settles;
      flagged = rw begun.2.heard c.requires.flagged;
      call = ap key_of (sym c.requires.call);
      key = c.requires.key;
    }

pub returns-in-Ok : goal.returns-in-Ok
returns-in-Ok g c =
    let begun = c.in_ok-begin_update.ensures in
    let is = begun.3 ∙ ap Ok (sym c.as_slice.ensures.value) in
    let put = c.in-Ok.ensures.publishes in
    let renewed = has_renewed begun.2 is in
    let told
    = has_updated begun.2 is c.requires.call c.requires.key (set_later put.0 renewed)
    (λ steps grows. (steps + put.0, grows_with put.0 steps (steps + put.0) _ _ _ refl grows)) put.1 in
    record {
      rests = told.0;
      flagged = c.in-Ok.ensures.flagged;
      updates = record {
        set = begun.1;
        left = c.as_slice.result.now;
        applies = is;
        steps = put.0;
        published = told.1.0;
        had = told.1.1;
        gives = given_out g.R.RowRoom.shows _ put.1.slot _ _ put.0 c.in-Ok.given renewed c.requires.own told.1.2 put.2;
      };
    }

pub returns-in-Err : goal.returns-in-Err
returns-in-Err g c =
    let begun = c.in_ok-begin_update.ensures in
    let is = begun.3 ∙ ap Ok (sym c.as_slice.ensures.value) in
    let told = has_not_updated begun.2 is c.requires.call c.requires.key c.in-Err.ensures.publishes.0 in
    record {
      rests = told.0;
      flagged = c.in-Err.ensures.flagged;
      updates = ((begun.1, c.as_slice.result.now, is, told.1.0, told.1.1), c.in-Err.ensures.publishes.1);
    }
