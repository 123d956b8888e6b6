use Rattle.std.proofs.Common.{ap, arith, get_or, sym, false, Bool, List, ℕ, ◌<◌, ◌∙◌}
use Rattle.std.proofs.Common.{◌≡◌}
use Rattle.std.specs.Prelude.{nat_lt}
use Rattle.nr_core.specs.SlotLists.{SlotLists}
use Rattle.nr_board.proofs.Flagging.{unheard_is}
use Rattle.nr_board.specs.Callers.{Table}
use Rattle.nr_board.specs.Flags.{IsFlagged}
use Rattle.nr_board.specs.WholeScans.{is_flagged}
use Rattle.nr_board.specs.WriterSeats.{MapSeat, RestsAt}
use Rattle.nr_board.proofs.Sweeps.{probes_at, retired_near, swept_first, swept_more, swept_past, swept_unheard}
use Rattle.nr_board.proofs.Sweeps.{entry_at, sweeps_free}
use Rattle.nr_board.proofs.board.Board.sweep.Goals.{then-not-is_reaped+then-not-is_flagged+else-same_count}
use Rattle.nr_board.proofs.board.Board.sweep.Goals.{then-not-is_reaped+else-not-is_flagged, else-not-is_reaped}
use Rattle.nr_board.proofs.board.Board.sweep.Goals as goal

pub loop-place-init : goal.loop-place-init
loop-place-init c = swept_first c.args.lists.now c.args.seat.now c.passed-first.result c.passed-first.ensures.reaped

pub is_reaped-requires : goal.is_reaped-requires
is_reaped-requires c =
    let here = entry_at c.retired_at-entry.ensures c.loop-place-test.true c.retired_len-place-end.ensures in
    retired_near c.requires.rests here

pub is_flagged-requires : goal.is_flagged-requires
is_flagged-requires c =
    let here = entry_at c.retired_at-entry.ensures c.loop-place-test.true c.retired_len-place-end.ensures in
    record {
      wide = λ some_words. omega (
        arith,
        retired_near c.requires.rests here,
        (c.requires.flagged some_words).wide,
        c.requires.rests.slots,
      );
    }

-- what the flag of a slot tells of what the seat has heard
told_of : {map : Table} {lists : SlotLists} {flags : List Bool} {seat : MapSeat} → RestsAt map lists seat
    → IsFlagged map lists.retired seat.me.0.heard flags → (slot : ℕ) (told : Bool)
    → (map.announcers ≡ 0 → told ≡ false) → (0 < map.announcers → told ≡ is_flagged flags slot)
    → told ≡ nat_lt (get_or seat.me.0.heard slot 0) seat.me.0.announcers
told_of {map = map} {lists = lists} {flags = flags} {seat = seat} rests flagged slot told none some_words =
    unheard_is map lists.retired seat.me.0.heard flags flagged slot told none some_words
    ∙ ap (λ (t : Table). nat_lt (get_or seat.me.0.heard slot 0) t.announcers) (sym rests.writes.own)

pub probe-departures-requires : goal.probe-departures-requires
probe-departures-requires c =
    let here = entry_at c.retired_at-entry.ensures c.loop-place-test.true c.retired_len-place-end.ensures in
    let far
    = told_of c.requires.rests c.requires.flagged _ c.is_flagged.result c.is_flagged.ensures.none
    c.is_flagged.ensures.flag in
    probes_at c.requires.rests c.loop-place.invariant here (sym far ∙ c.if-not-is_flagged.true)

pub returns-then-same_count-clause-sweeps : goal.returns-then-same_count-clause-sweeps
returns-then-same_count-clause-sweeps c =
    let here = entry_at c.retired_at-entry.ensures c.loop-place-test.true c.retired_len-place-end.ensures in
    let probed = c.probe-departures in
    let far
    = told_of c.requires.rests c.requires.flagged _ c.is_flagged.result
    c.is_flagged.ensures.none c.is_flagged.ensures.flag in
    sweeps_free c.loop-place.invariant here c.requires.rests (sym c.is_reaped.ensures ∙ c.if-not-is_reaped.true)
    (sym far ∙ c.if-not-is_flagged.true) probed.result probed.new.seat probed.ensures.own probed.ensures.tells
    (sym c.same_count.ensures ∙ c.if-same_count.true)

pub loop-place-preserved : goal.loop-place-preserved
loop-place-preserved c =
    let so_far = c.loop-place.invariant in
    let rests = c.requires.rests in
    let here = entry_at c.retired_at-entry.ensures c.loop-place-test.true c.retired_len-place-end.ensures in
    elim c.if-not-is_reaped.branch [
      | then-not-is_reaped+then-not-is_flagged+else-same_count w ↦ let probed = w.probe-departures in
          let far
          = told_of rests c.requires.flagged _ w.is_flagged.result w.is_flagged.ensures.none
          w.is_flagged.ensures.flag in
          rw w.waits-is (rw w.seat-is
          (swept_more so_far here rests (sym c.is_reaped.ensures ∙ w.if-not-is_reaped.true)
          (sym far ∙ w.if-not-is_flagged.true) probed.result probed.new.seat probed.ensures.own probed.ensures.tells
          (sym w.same_count.ensures ∙ w.if-same_count.false)))
      | then-not-is_reaped+else-not-is_flagged w ↦
          let far
          = told_of rests c.requires.flagged _ w.is_flagged.result w.is_flagged.ensures.none
          w.is_flagged.ensures.flag in
          rw w.waits-is (rw w.seat-is
          (swept_unheard so_far here (sym c.is_reaped.ensures ∙ w.if-not-is_reaped.true)
          (sym far ∙ w.if-not-is_flagged.false)))
      | else-not-is_reaped w ↦
          rw w.waits-is (rw w.seat-is (swept_past so_far here (sym c.is_reaped.ensures ∙ w.if-not-is_reaped.false)))
    ]
