use Rattle.std.proofs.Common.{ap, arith, sym, ◌∙◌, ◌<◌}
use Rattle.nr_core.specs.declared.shape.Shape.{Shape}
use Rattle.nr_board.proofs.Seats.{seats_so}
use Rattle.nr_board.specs.Callers.{Table}
use Rattle.nr_board.proofs.board.Board.seat.Goals as goal

pub split_seat-requires : goal.split_seat-requires
split_seat-requires c =
    let shared = c.self.inside.table.shared in
    let about = c.self.invariant in
    let seat = c.args.seat.now in
    let room : seat.me.0.made < shared.key.shape.readers
    = omega (
      arith,
      c.requires.few,
      ap (λ (t : Table). t.shape.readers) c.self.view_is,
      ap (λ (s : Shape). s.readers) about.0,
    ) in (
      c.requires.own ∙ sym (ap (λ (t : Table). t.id) c.self.view_is),
      omega arith,
      seats_so shared.key.shape seat.id seat.me.0 c.requires.writer room,
    )
