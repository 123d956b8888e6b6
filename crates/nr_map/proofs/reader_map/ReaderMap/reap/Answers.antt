use Rattle.std.proofs.Common.{subst}
use Rattle.nr_board.specs.Callers.{Caller, token}
use Rattle.nr_board.specs.Reaping.{ReapsIn}
use Rattle.nr_map.proofs.reader_map.ReaderMap.reap.Goals as goal

pub returns : goal.returns
returns g c =
    subst
    (λ (writer : Caller). ReapsIn g.R.RowRoom.shows writer c.args.had.now (token c.reap.new.seat) c.reap.new.had
    c.reap.result)
    c.writer.view_is c.reap.ensures.reaps
