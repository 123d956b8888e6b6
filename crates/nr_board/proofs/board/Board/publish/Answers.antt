use Rattle.std.proofs.Common.{ap, arith, length, refl, subst, ℕ, ◌*◌, ◌+◌}
use Rattle.std.proofs.lemmas.Bool.{lt-leb}
use Rattle.nr_core.specs.declared.places.Place.TheVariants.{Putting}
use Rattle.nr_board.proofs.WriterSeats.{desk_at, goes_on}
use Rattle.nr_board.proofs.BoardPlaces.{key_in, same_id, stands}
use Rattle.nr_board.proofs.WriterSteps.{goes_so}
use Rattle.nr_board.specs.Callers.{Table}
use Rattle.nr_board.specs.Plays.{RoomAt}
use Rattle.nr_board.proofs.board.Board.publish.Goals as goal

pub naming-word-requires : goal.naming-word-requires
naming-word-requires c =
    let publishing = c.requires.writer in
    let room = subst (RoomAt c.args.self.now.shape publishing.desk) publishing.place publishing.writes.room.place in
    let shape = c.self.invariant.4 in
    omega (arith, room.0, shape.slots, ap (λ (t : Table). t.shape.slots) c.self.view_is)

pub swap-requires : goal.swap-requires
swap-requires c =
    let shared = c.self.inside.table.shared in
    let board = stands c.self.view_is c.self.invariant in
    let seat = c.args.seat.now in
    let publishing = c.requires.writer in
    let rows = publishing.rows in
    let call = publishing.call in
    let slot : ℕ = c.args.slot in
    let last : ℕ = 2 * length rows + 1 in
    let at = record publishing.desk { place = Putting call rows slot c.args.departed last } in
    let n : ℕ = shared.table_id.slots in
    let allows
    = rw (lt-leb last (2 * length rows) (omega arith)) at
    (goes_so shared.key.shape n seat.id seat.me at
    (desk_at seat.me.0.role publishing.desk (Putting call rows slot c.args.departed last) publishing.writes.role
    publishing.place)
    refl tt tt) in (
      same_id publishing.writes.own c.self.view_is,
      key_in board c.requires.key,
      rw (publishing.key_is, c.naming-word.ensures) allows,
    )

pub returns : goal.returns
returns c = goes_on c.swap.ensures.0 c.requires.writer.writes.own c.swap.ensures.2
