use Rattle.std.proofs.Common.{ap, arith, sym, ◌∙◌}
use Rattle.nr_board.proofs.Notes.{retells_so}
use Rattle.nr_board.specs.Callers.{Table}
use Rattle.nr_board.proofs.board.Board.retell.Goals as goal

pub split_seat-requires : goal.split_seat-requires
split_seat-requires c =
    let seat = c.args.seat.now in (
      c.requires ∙ sym (ap (λ (t : Table). t.id) c.self.view_is),
      omega arith,
      retells_so c.self.inside.table.shared.key.shape seat.id seat.me.0,
    )
