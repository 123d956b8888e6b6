use Rattle.std.proofs.Common.{ap, sym, ◌∙◌}
use Rattle.nr_board.proofs.BoardPlaces.{key_in, key_near, stands}
use Rattle.nr_board.proofs.SearchSeats.{has_given_up_so}
use Rattle.nr_board.specs.Callers.{Table}
use Rattle.nr_board.proofs.board.Board.give_up.Goals as goal

pub load-requires : goal.load-requires
load-requires c =
    let shared = c.self.inside.table.shared in
    let board = stands c.self.view_is c.self.invariant in
    let seat = c.args.seat.now in
    let search = c.requires in (
      ap (λ (t : Table). t.id) (search.own ∙ sym c.self.view_is),
      key_in board board.some_key,
      has_given_up_so shared.key.shape shared.table_id.slots seat.id seat.me search.desk search.call search.rows
          search.role search.place (ap (λ (t : Table). t.shape) search.own ∙ sym board.key_is) 0
          (key_near board board.some_key),
    )
