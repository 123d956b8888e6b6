use Rattle.std.proofs.Common.{ap, arith, refl, subst, ℕ, ◌∙◌}
use Rattle.nr_core.specs.Slots.{content}
use Rattle.nr_core.specs.declared.places.Place.TheVariants.{Reading}
use Rattle.nr_board.proofs.BoardPlaces.{content_at, content_fits, content_in, same_id, stands}
use Rattle.nr_board.proofs.WriterSeats.{desk_at, goes_on}
use Rattle.nr_board.proofs.WriterSteps.{goes_so}
use Rattle.nr_board.specs.Plays.{RoomAt}
use Rattle.nr_board.proofs.board.Board.read_on.Goals as goal

pub overflow_add-place : goal.overflow_add-place
overflow_add-place c =
    let board = stands c.self.view_is c.self.invariant in
    let reading = c.requires in
    let room = subst (RoomAt c.args.self.now.shape reading.desk) reading.place reading.writes.room.place in
    record {
      fits = content_fits board reading.slot room.0 c.args.begin c.args.index reading.begin_is
          (omega (arith, reading.index_is, room.1));
    }

pub load-requires : goal.load-requires
load-requires c =
    let shared = c.self.inside.table.shared in
    let board = stands c.self.view_is c.self.invariant in
    let seat = c.args.seat.now in
    let reading = c.requires in
    let room = subst (RoomAt c.args.self.now.shape reading.desk) reading.place reading.writes.room.place in
    let place
    = content_at board reading.slot room.0 c.args.begin c.args.index reading.begin_is
    ∙ ap (content shared.key.shape reading.slot) reading.index_is in
    let n : ℕ = shared.table_id.slots in
    let at = record reading.desk { place = Reading reading.call reading.slot reading.got } in (
      same_id reading.writes.own c.self.view_is,
      content_in board reading.slot room.0 c.args.begin c.args.index reading.begin_is
          (omega (arith, reading.index_is, room.1)),
      rw place (goes_so shared.key.shape n seat.id seat.me at
          (desk_at seat.me.0.role reading.desk (Reading reading.call reading.slot reading.got) reading.writes.role
          reading.place)
          refl tt tt),
    )

pub returns : goal.returns
returns c = goes_on c.load.ensures.0 c.requires.writes.own c.load.ensures.2
