use Rattle.std.proofs.Common.{ap, arith, get_or, refl, subst, sym, ℕ, ◌<◌, ◌≤◌, ◌∙◌}
use Rattle.nr_core.specs.Slots.{departures}
use Rattle.nr_core.specs.States.{retired_at}
use Rattle.nr_core.specs.declared.places.Place.TheVariants.{Searching}
use Rattle.nr_board.proofs.PollNotes.{at_get}
use Rattle.nr_board.proofs.BoardPlaces.{departures_at, departures_in, same_id, stands}
use Rattle.nr_board.proofs.WriterSeats.{desk_at, gone_seat}
use Rattle.nr_board.proofs.WriterSteps.{goes_so}
use Rattle.nr_board.specs.Callers.{Table}
use Rattle.nr_board.specs.Plays.{RoomAt}
use Rattle.nr_board.specs.WriterSeats.{IsPolling, MapSeat}
use Rattle.nr_board.proofs.board.Board.poll.Goals as goal

inside : (table : Table) (slot : ℕ) (seat : MapSeat) → IsPolling table slot seat → slot < table.shape.slots
inside table slot seat polling =
    let few = subst (RoomAt table.shape polling.desk) polling.place polling.writes.room.place in
    let low
    = polling.writes.room.inside polling.poll (retired_at polling.desk polling.poll)
    (at_get polling.desk.retired polling.poll few) in
    let is = polling.slot_is in
    omega arith

pub departures-place-requires-clause-has : goal.departures-place-requires-clause-has
departures-place-requires-clause-has c =
    rw c.layout.ensures.value (inside c.args.self.now c.args.slot c.args.seat.now c.requires)

pub load-requires : goal.load-requires
load-requires c =
    let shared = c.self.inside.table.shared in
    let board = stands c.self.view_is c.self.invariant in
    let seat = c.args.seat.now in
    let polling = c.requires in
    let low = inside c.args.self.now c.args.slot seat polling in
    let is = rw c.layout.ensures.value at c.departures-place.ensures.place in
    let n : ℕ = shared.table_id.slots in
    let at = record polling.desk { place = Searching polling.call polling.rows polling.poll } in
    let place = departures_at board c.args.slot low is ∙ ap (departures shared.key.shape) polling.slot_is in (
      same_id polling.writes.own c.self.view_is,
      departures_in board c.args.slot low is,
      rw place (goes_so shared.key.shape n seat.id seat.me at
          (desk_at seat.me.0.role polling.desk (Searching polling.call polling.rows polling.poll)
          polling.writes.role polling.place)
          refl
          (subst (λ (q : ℕ × ℕ). q.0 ≤ get_or seat.me.0.heard q.1 0)
          (λ j. (sym (ap (λ (t : Table). t.announcers) polling.writes.own) j, polling.slot_is j)) polling.heard)
          polling.in_order),
    )

pub returns : goal.returns
returns
    c = λ desk is. gone_seat c.args.self.now c.args.seat.now c.load.new.seat c.load.ensures.0 c.requires.writes.own desk
    c.load.result (c.load.ensures.2 desk is)
