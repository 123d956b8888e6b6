use Rattle.std.proofs.Common.{Ok, ap, sym, ◌∙◌}
use Rattle.nr_core.specs.States.{key_of}
use Rattle.nr_board.proofs.WriterCalls.{has_not_updated, has_renewed, has_updated}
use Rattle.nr_board.proofs.board.Board.update_key.Goals as goal

pub publish_set-requires : goal.publish_set-requires
publish_set-requires g c =
    let begun = c.in_ok-begin_update.ensures in
    let is = begun.3 ∙ ap Ok (sym c.as_slice.ensures.value) in
    record {
      settles = rw c.requires.call (has_renewed begun.2 is).settles;
      flagged = rw begun.2.heard c.requires.flagged;
      call = ap key_of (sym c.requires.call);
      key = c.requires.key;
    }

pub returns-in-Err : goal.returns-in-Err
returns-in-Err g c =
    let begun = c.in_ok-begin_update.ensures in
    let is = begun.3 ∙ ap Ok (sym c.as_slice.ensures.value) in
    let told = has_not_updated begun.2 is c.requires.call c.requires.key c.in-Err.ensures.publishes in
    record {
      rests = told.0;
      flagged = c.in-Err.ensures.flagged;
      updates = (begun.1, c.as_slice.result.now, is, told.1.0, told.1.1);
    }

pub returns : goal.returns
returns g c = let begun = c.in_ok-begin_update.ensures in let is = begun.3 ∙ ap Ok (sym c.as_slice.ensures.value) in
    let told
    = has_updated begun.2 is c.requires.call c.requires.key (has_renewed begun.2 is) (λ steps grows. (steps, grows))
    c.in_default.ensures.publishes in
    record {
      rests = told.0;
      flagged = c.in_default.ensures.flagged;
      updates = (begun.1, c.as_slice.result.now, is, told.1.0, told.1.1);
    }
