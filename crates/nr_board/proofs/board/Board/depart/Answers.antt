use Rattle.std.proofs.Common.{ap, arith, ℕ, ◌-◌, ◌≡◌}
use Rattle.nr_core.specs.Slots.{departures}
use Rattle.nr_core.specs.declared.shape.Shape.{Shape}
use Rattle.nr_board.proofs.BoardPlaces.{departures_at, departures_in, own_shape, same_id, stands}
use Rattle.nr_board.proofs.ReaderSeats.{departed_seat}
use Rattle.nr_board.proofs.ReaderSteps.{departs_so}
use Rattle.nr_board.specs.Views.{slot_held}
use Rattle.nr_board.proofs.board.Board.depart.Goals as goal

pub fetch_add-requires : goal.fetch_add-requires
fetch_add-requires c =
    let shared = c.self.inside.table.shared in
    let board = stands c.self.view_is c.self.invariant in
    let seat = c.args.seat.now in
    let reader = c.requires.reader in
    let slot : ℕ = slot_held seat.me.0.role in
    let before : c.args.begin - 1 ≡ departures c.args.self.now.shape slot = omega (arith, reader.begin_is) in (
      same_id reader.own c.self.view_is,
      departures_in board slot reader.holds.inside before,
      rw (departures_at board slot reader.holds.inside before)
          (departs_so shared.key.shape shared.table_id.slots seat.id seat.me reader.holds.is
          (omega (arith, reader.holds.inside, ap (λ (s : Shape). s.slots) board.key_is))
          (own_shape board reader.own) c.requires.counted),
    )

pub returns : goal.returns
returns c =
    let told
    = departed_seat c.args.self.now c.args.seat.now c.fetch_add.new.seat c.fetch_add.ensures.0 c.args.begin
    c.requires.reader c.requires.counted
    c.fetch_add.ensures.2 in record { reader = told.0; rests = told.1; marks = c.fetch_add.ensures.2.marks }
