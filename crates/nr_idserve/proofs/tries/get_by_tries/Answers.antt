use Rattle.std.proofs.Common.{◌∙◌, arith, refl}
use Rattle.nr_serve.proofs.Later.{later_both}
use Rattle.nr_serve.proofs.Ringing.{rings_both, rings_looks, rings_same}
use Rattle.nr_idserve.proofs.IdWaiting.{sleeps_by_end, sleeps_by_none, sleeps_in_time, sleeps_late, slept_more}
use Rattle.nr_idserve.proofs.IdWaiting.{slept_none}
use Rattle.nr_idserve.proofs.tries.get_by_tries.Goals as goal

pub loop-i-init : goal.loop-i-init
loop-i-init g c =
    record {
      ready = c.requires.ready;
      slept = slept_none _ c.args.id c.args.tries _ c.args.hands.now c.args.lobby.now;
      rows = refl;
      rings = rings_same _ _ _ refl;
      at_once = λ _. refl;
    }

pub returns-in-Rows-clause-rings : goal.returns-in-Rows-clause-rings
returns-in-Rows-clause-rings g c =
    rings_both (rings_looks c.loop-i.invariant.rings c.count_for-counted.ensures.looks) c.try_once.ensures.rings

pub returns-in_err-sleep_if-clause-rings : goal.returns-in_err-sleep_if-clause-rings
returns-in_err-sleep_if-clause-rings g c =
    rings_looks
    (rings_both (rings_looks c.loop-i.invariant.rings c.count_for-counted.ensures.looks) c.try_once.ensures.rings)
    c.sleep_if.ensures.looks

pub loop-i-preserved : goal.loop-i-preserved
loop-i-preserved g c =
    let so_far = c.loop-i.invariant in
    let counted = c.count_for-counted.ensures in
    let once = c.in-Missed.ensures.tries in
    record {
      ready = c.try_once.ensures.ready;
      slept =
          slept_more so_far.slept once.0 counted.looks.later (rw counted.id.1 at counted.found)
          (later_both _ _ _ c.try_once.ensures.rings.raises.later c.sleep_if.ensures.looks.later)
          (λ low. rw counted.id.1 at (c.in_ok-sleep_if.ensures.sleeps (omega (arith, low))));
      rows = once.1 ∙ so_far.rows;
      rings =
          rings_looks (rings_both (rings_looks so_far.rings counted.looks) c.try_once.ensures.rings)
          c.sleep_if.ensures.looks;
      at_once = λ none. absurd (omega (arith, none));
    }

pub returns-in-Rows-clause-waits : goal.returns-in-Rows-clause-waits
returns-in-Rows-clause-waits g c =
    let so_far = c.loop-i.invariant in
    sleeps_by_end g.R.RowRoom.shows so_far.slept c.loop-i-test.true so_far.rows c.in-Rows.ensures.tries
    (later_both _ _ _ c.count_for-counted.ensures.looks.later c.try_once.ensures.rings.raises.later)

pub returns-in_err-sleep_if-clause-waits : goal.returns-in_err-sleep_if-clause-waits
returns-in_err-sleep_if-clause-waits g c =
    let so_far = c.loop-i.invariant in
    let counted = c.count_for-counted.ensures in
    let slept = c.in_err-sleep_if.ensures.slept in
    sleeps_late g.R.RowRoom.shows so_far.slept _ c.from_residual.result c.from_residual.ensures.1
    (omega (arith, slept.0)) (c.in-Missed.ensures.tries.1 ∙ so_far.rows) (rw (counted.id.0, counted.hands) at slept.1)
    (later_both _ _ _ counted.looks.later
    (later_both _ _ _ c.try_once.ensures.rings.raises.later c.sleep_if.ensures.looks.later))

pub returns-in_err-sleep_if-clause-gets : goal.returns-in_err-sleep_if-clause-gets
returns-in_err-sleep_if-clause-gets g c =
    sleeps_in_time g.R.RowRoom.shows _ _ _ _ _ _ c.args.lobby.now c.sleep_if.new.lobby c.from_residual.result
    (returns-in_err-sleep_if-clause-waits g c)

pub returns-clause-waits : goal.returns-clause-waits
returns-clause-waits g c =
    sleeps_by_none g.R.RowRoom.shows c.loop-i.invariant.slept (omega (arith, c.loop-i-test.false, c.loop-i.auto.i-end))
    c.loop-i.invariant.rows
