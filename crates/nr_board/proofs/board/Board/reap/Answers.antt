use Rattle.nr_board.proofs.Looks.{rests_here}
use Rattle.nr_board.proofs.Reaps.{keeps_all, reaps_set, recalls_found}
use Rattle.nr_board.proofs.board.Board.reap.Goals as goal

pub recall_set-requires : goal.recall_set-requires
recall_set-requires g c =
    let rests = rests_here c.args.self.now c.args.lists.now c.args.seat.now c.requires.own c.requires.rests in
    let swept = c.in-Free.ensures in
    record { recalls = recalls_found rests c.sweep_heard.new.seat c.in-Free.slot swept.sweeps swept.own }

pub returns-in-Free-clause-reaps : goal.returns-in-Free-clause-reaps
returns-in-Free-clause-reaps g c =
    let rests = rests_here c.args.self.now c.args.lists.now c.args.seat.now c.requires.own c.requires.rests in
    let swept = c.in-Free.ensures in
    let read = c.recall_set.ensures in
    reaps_set rests c.sweep_heard.new.seat c.in-Free.slot swept.sweeps swept.own c.recall_set.new.seat read.own
    read.waits g.R.RowRoom.shows read.rows read.row_set

pub returns-in-Held-clause-reaps : goal.returns-in-Held-clause-reaps
returns-in-Held-clause-reaps g c =
    let rests = rests_here c.args.self.now c.args.lists.now c.args.seat.now c.requires.own c.requires.rests in
    let swept = c.in-Held.ensures in
    keeps_all rests c.sweep_heard.new.seat swept.sweeps swept.own g.R.RowRoom.shows c.args.had.now
