use Rattle.std.proofs.Common.{arith, subst, ℕ}
use Rattle.nr_board.proofs.BoardPlaces.{content_at, content_fits, content_in, same_id, stands}
use Rattle.nr_board.proofs.WriterSeats.{put_seat}
use Rattle.nr_board.proofs.WriterSteps.{puts_so}
use Rattle.nr_board.specs.Plays.{RoomAt}
use Rattle.nr_board.proofs.board.Board.put.Goals as goal

pub overflow_add-place : goal.overflow_add-place
overflow_add-place c =
    let board = stands c.self.view_is c.self.invariant in
    let putting = c.requires in
    let room = subst (RoomAt c.args.self.now.shape putting.desk) putting.place putting.writes.room.place in
    record {
      fits = content_fits board putting.slot room.0 c.args.begin c.args.index putting.begin_is
          (omega (arith, putting.more, room.1.1));
    }

pub store-requires : goal.store-requires
store-requires c =
    let shared = c.self.inside.table.shared in
    let board = stands c.self.view_is c.self.invariant in
    let seat = c.args.seat.now in
    let putting = c.requires in
    let room = subst (RoomAt c.args.self.now.shape putting.desk) putting.place putting.writes.room.place in
    let n : ℕ = shared.table_id.slots in (
      same_id putting.writes.own c.self.view_is,
      content_in board putting.slot room.0 c.args.begin c.args.index putting.begin_is
          (omega (arith, putting.more, room.1.1)),
      rw (content_at board putting.slot room.0 c.args.begin c.args.index putting.begin_is, putting.word_is)
          (puts_so shared.key.shape n seat.id seat.me putting.desk putting.call putting.rows putting.slot
          putting.departed c.args.index putting.writes.role putting.place putting.more),
    )

pub returns : goal.returns
returns
    c = λ desk is. put_seat c.args.self.now c.args.seat.now c.store.new.seat c.store.ensures.0 c.requires.writes.own
    desk (c.store.ensures.2 desk is)
