use Rattle.std.proofs.Common.{ap, subst, sym, ℕ, ◌<◌, ◌∙◌}
use Rattle.nr_core.proofs.ListPlaces.{inside}
use Rattle.nr_core.specs.Slots.{departures}
use Rattle.nr_core.specs.declared.places.Retired.{Retired}
use Rattle.nr_core.specs.declared.shape.Shape.{Shape}
use Rattle.nr_board.proofs.BoardPlaces.{departures_at, departures_in, stands}
use Rattle.nr_board.proofs.PollNotes.{there_is}
use Rattle.nr_board.proofs.SearchSeats.{has_tried_so}
use Rattle.nr_board.specs.Callers.{Table}
use Rattle.nr_board.specs.Plays.{Room}
use Rattle.nr_board.specs.SearchSeats.{TriesAt}
use Rattle.nr_board.specs.Views.{desk_of}
use Rattle.nr_board.specs.WriterSeats.{MapSeat}
use Rattle.nr_board.proofs.board.Board.try_slot.Goals as goal

near : (table : Table) (entry : Retired) (seat : MapSeat) → TriesAt table entry seat → entry.slot < table.shape.slots
near table entry seat tries = tries.search.room.inside tries.poll entry tries.here

pub departures-place-requires-clause-has : goal.departures-place-requires-clause-has
departures-place-requires-clause-has c =
    rw c.layout.ensures.value (near c.args.self.now c.args.entry c.args.seat.now c.requires)

pub load-requires : goal.load-requires
load-requires c =
    let shared = c.self.inside.table.shared in
    let board = stands c.self.view_is c.self.invariant in
    let seat = c.args.seat.now in
    let tries = c.requires in
    let entry = c.args.entry in
    let search = tries.search in let n : ℕ = shared.table_id.slots in let low = near c.args.self.now entry seat tries in
    let is = rw c.layout.ensures.value at c.departures-place.ensures.place in (
      ap (λ (t : Table). t.id) (search.own ∙ sym c.self.view_is),
      departures_in board entry.slot low is,
      rw (departures_at board entry.slot low is)
          (has_tried_so shared.key.shape n seat.id seat.me search.desk search.call search.rows search.role search.place
          (ap (λ (t : Table). t.shape) search.own ∙ sym board.key_is) tries.poll entry tries.here
          (rw (ap (λ (t : Table). t.announcers) search.own) tries.heard)),
    )

pub returns-clause-tries : goal.returns-clause-tries
returns-clause-tries c =
    let seat = c.args.seat.now in
    let tries = c.requires in
    let entry = c.args.entry in
    let search = tries.search in
    let size = ap (λ (t : Table). t.shape) search.own in
    let is = rw c.layout.ensures.value at c.departures-place.ensures.place in
    λ desk call rows poll is_desk is_at here. c.load.ensures.2 desk call rows poll is_desk is_at
    (subst (λ (s : Shape). Room s desk) (sym size)
    (subst (Room c.args.self.now.shape) (sym (ap desk_of search.role) ∙ ap desk_of is_desk) search.room))
    (inside desk.retired poll entry here)
    (is ∙ ap (λ (s : Shape). departures s entry.slot) (sym size)
    ∙ ap (λ (e : Retired). departures seat.me.0.shape e.slot) (there_is desk.retired poll entry here))
