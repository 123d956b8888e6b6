use Rattle.std.proofs.Common.{ap, arith, sym, ℕ, ◌<◌, ◌∙◌}
use Rattle.nr_board.proofs.BoardPlaces.{said_at, said_in, stands}
use Rattle.nr_board.proofs.Scanning.{scans_so}
use Rattle.nr_board.specs.Announcing.{says_at}
use Rattle.nr_board.specs.Callers.{Table}
use Rattle.nr_board.proofs.board.Board.scan.Goals as goal

pub load-requires : goal.load-requires
load-requires c =
    let shared = c.self.inside.table.shared in
    let board = stands c.self.view_is c.self.invariant in
    let seat = c.args.seat.now in
    let n : ℕ = shared.table_id.slots in
    let is = c.own_word-place.ensures.place in
    let scans = c.requires in
    let within : c.args.own < seat.me.0.announcers
    = omega (arith, scans.within, ap (λ (t : Table). t.announcers) scans.own_table) in (
      ap (λ (t : Table). t.id) (scans.own_table ∙ sym c.self.view_is),
      said_in board c.args.own scans.within is,
      rw (said_at board c.args.own is)
          (scans_so shared.key.shape n seat.id c.args.own seat.me scans.desk scans.role within),
    )

pub returns-clause-hears : goal.returns-clause-hears
returns-clause-hears c =
    let seat = c.args.seat.now in
    let scans = c.requires in
    let within : c.args.own < seat.me.0.announcers
    = omega (arith, scans.within, ap (λ (t : Table). t.announcers) scans.own_table) in
    λ desk is. c.load.ensures.2 desk c.args.own is within
    (c.own_word-place.ensures.place ∙ ap (λ (t : Table). says_at t.shape c.args.own) (sym scans.own_table))
