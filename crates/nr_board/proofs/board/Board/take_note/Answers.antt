use Rattle.std.proofs.Common.{ap, arith, sym, ◌∙◌}
use Rattle.atomic_table.specs.declared.shared.Seat.{Seat}
use Rattle.nr_board.proofs.Notes.{joins_so}
use Rattle.nr_board.specs.Callers.{Table}
use Rattle.nr_board.specs.Views.{View}
use Rattle.nr_board.proofs.board.Board.take_note.Goals as goal

pub join_seat-requires : goal.join_seat-requires
join_seat-requires c =
    let seat = c.args.seat.now in
    let note = c.note.inside.seat in
    let here = sym (ap (λ (t : Table). t.id) c.self.view_is) in
    let is = c.note.view_is in (
      c.requires.own.0 ∙ here,
      ap (λ (s : Seat (Unit {0}) View). s.table_id) is ∙ c.requires.own.1 ∙ here,
      ap (λ (s : Seat (Unit {0}) View). s.me.1) is
          ∙ c.requires.note.1,
      omega arith,
      joins_so c.self.inside.table.shared.key.shape seat.id seat.me.0 note.id note.me.0
          (ap (λ (s : Seat (Unit {0}) View). s.me.0.role) is ∙ c.requires.note.0),
    )
