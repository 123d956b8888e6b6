use Rattle.std.proofs.Common.{ap, arith, sym, ℕ, ◌<◌, ◌∙◌}
use Rattle.nr_board.proofs.BoardPlaces.{said_at, said_in, stands}
use Rattle.nr_board.proofs.SearchSeats.{has_searched_so}
use Rattle.nr_board.specs.Announcing.{says_at}
use Rattle.nr_board.specs.Callers.{Table}
use Rattle.nr_board.proofs.board.Board.scan_on.Goals as goal

pub load-requires : goal.load-requires
load-requires c =
    let shared = c.self.inside.table.shared in
    let board = stands c.self.view_is c.self.invariant in
    let seat = c.args.seat.now in
    let n : ℕ = shared.table_id.slots in
    let is = c.own_word-place.ensures.place in
    let search = c.requires.search in
    let within : c.args.own < seat.me.0.announcers
    = omega (arith, c.requires.within, ap (λ (t : Table). t.announcers) search.own) in (
      ap (λ (t : Table). t.id) (search.own ∙ sym c.self.view_is),
      said_in board c.args.own c.requires.within is,
      rw (said_at board c.args.own is)
          (has_searched_so shared.key.shape n seat.id seat.me search.desk search.call search.rows search.role
          search.place (ap (λ (t : Table). t.shape) search.own ∙ sym board.key_is) c.args.own within),
    )

pub returns-clause-hears : goal.returns-clause-hears
returns-clause-hears c =
    let seat = c.args.seat.now in
    let search = c.requires.search in
    let within : c.args.own < seat.me.0.announcers
    = omega (arith, c.requires.within, ap (λ (t : Table). t.announcers) search.own) in
    λ desk call rows is is_at. c.load.ensures.2 desk call rows c.args.own is is_at within
    (c.own_word-place.ensures.place ∙ ap (λ (t : Table). says_at t.shape c.args.own) (sym search.own))
