use Rattle.std.proofs.Common.{ap, arith, false, ◌∙◌}
use Rattle.std.specs.Prelude.{slice_set}
use Rattle.nr_core.specs.SlotLists.{SlotLists}
use Rattle.nr_board.proofs.Publishing.{flags_published, published}
use Rattle.nr_board.proofs.board.Board.publish_reclaiming.Goals as goal

pub returns-clause-publishes : goal.returns-clause-publishes
returns-clause-publishes g c =
    let slot = c.in_ok-taken.taken.slot in
    let put = c.put_rows.ensures in
    let made
    = published c.in_ok-taken.ensures.takes.1 put.writer put.grows put.marks put.heard c.publish-named.ensures
    (c.set_reaped.ensures ∙ ap (λ (s : SlotLists). record s { reaped = slice_set s.reaped slot false })
    c.retire.ensures) in
    (c.in_ok-taken.ensures.takes.0, made.0, rw made.1 c.in_ok-taken.ensures.takes.2)

pub set_reaped-requires : goal.set_reaped-requires
set_reaped-requires g c =
    let took = c.in_ok-taken.ensures.takes.1 in
    omega (
      arith,
      took.writes.room.place.0,
      took.slots,
      c.requires.settles.slots,
      ap (λ (s : SlotLists). s.slots) c.retire.ensures,
    )

pub returns-clause-flagged : goal.returns-clause-flagged
returns-clause-flagged g c =
    let slot = c.in_ok-taken.taken.slot in
    let put = c.put_rows.ensures in
    rw c.flag.ensures
    (flags_published c.in_ok-taken.ensures.takes.1 put.writer put.grows put.marks put.heard c.publish-named.ensures
    (c.set_reaped.ensures
    ∙ ap (λ (s : SlotLists). record s { reaped = slice_set s.reaped slot false }) c.retire.ensures)
    c.in_ok-taken.ensures.flagged)
