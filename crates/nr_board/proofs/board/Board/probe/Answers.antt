use Rattle.std.proofs.Common.{ap, subst, sym, ℕ, ◌<◌, ◌∙◌}
use Rattle.nr_core.specs.Slots.{departures}
use Rattle.nr_core.specs.declared.places.Retired.{Retired}
use Rattle.nr_core.specs.declared.shape.Shape.{Shape}
use Rattle.nr_board.proofs.BoardPlaces.{departures_at, departures_in, stands}
use Rattle.nr_board.proofs.Sweeps.{probes_so}
use Rattle.nr_board.specs.Callers.{Table}
use Rattle.nr_board.specs.Plays.{Room}
use Rattle.nr_board.specs.Reaping.{ProbesAt}
use Rattle.nr_board.specs.WriterSeats.{MapSeat}
use Rattle.nr_board.proofs.board.Board.probe.Goals as goal

near : (table : Table) (entry : Retired) (seat : MapSeat) → ProbesAt table entry seat → entry.slot < table.shape.slots
near table entry seat probes = probes.room.inside probes.poll entry probes.here

pub departures-place-requires-clause-has : goal.departures-place-requires-clause-has
departures-place-requires-clause-has c =
    rw c.layout.ensures.value (near c.args.self.now c.args.entry c.args.seat.now c.requires)

pub load-requires : goal.load-requires
load-requires c =
    let shared = c.self.inside.table.shared in
    let board = stands c.self.view_is c.self.invariant in
    let seat = c.args.seat.now in
    let probes = c.requires in
    let entry = c.args.entry in
    let low = near c.args.self.now entry seat probes in
    let is = rw c.layout.ensures.value at c.departures-place.ensures.place in
    let n : ℕ = shared.table_id.slots in let place = departures_at board entry.slot low is in (
      ap (λ (t : Table). t.id) (probes.own ∙ sym c.self.view_is),
      departures_in board entry.slot low is,
      rw place (probes_so shared.key.shape n seat.id seat.me probes.desk probes.poll entry probes.role probes.idle
          probes.here
          (rw (ap (λ (t : Table). t.announcers) probes.own) probes.heard)),
    )

pub returns-clause-tells : goal.returns-clause-tells
returns-clause-tells c = let seat = c.args.seat.now in let probes = c.requires in let entry = c.args.entry in
    let size = ap (λ (t : Table). t.shape) probes.own in
    let is = rw c.layout.ensures.value at c.departures-place.ensures.place in
    rw (sym size) (c.load.ensures.2 probes.desk probes.poll entry probes.role probes.idle
    (subst (λ (s : Shape). Room s probes.desk) (sym size) probes.room) probes.here
    (is ∙ ap (λ (s : Shape). departures s entry.slot) (sym size)))
