use Rattle.std.proofs.Common.{Err, Ok, inl, inr, refl}
use Rattle.nr_idmap.specs.declared.upqueries.Unfilled.TheVariants as unfilled
use Rattle.nr_c.proofs.KeptUpqueries.{fill_ends}
use Rattle.nr_c.proofs.id_upqueries.nr_fill_id.Goals as goal

pub returns-then-not-is_own : goal.returns-then-not-is_own
returns-then-not-is_own c =
    rw (← c.is_live.ensures.same, c.side-side.ensures.value) (inr (
      (refl, refl, refl),
      inl (record { code_is = refl; other = c.if-not-is_own.ensures.other; stays = refl; keeps = refl; told = tt }),
    ))

pub returns-in-Some : goal.returns-in-Some
returns-in-Some c =
    let refused = rw (c.rows.ensures, c.deref.ensures, ← c.side-side.result.now.own) at c.in-Some.ensures in
    rw (← c.is_live.ensures.same, c.side-side.ensures.value) (inr (
      (refl, refl, refl),
      inr (c.if-not-is_own.ensures.own, inl (record { refused = refused; stays = refl; keeps = refl })),
    ))

pub returns-in_default-give_up : goal.returns-in_default-give_up
returns-in_default-give_up c =
    let rows = rw (c.rows.ensures, c.deref.ensures, ← c.side-side.result.now.own) at c.in_default.ensures in
    rw (← c.is_live.ensures.same, c.side-side.ensures.value) (inr (
      (refl, refl, refl),
      inr (c.if-not-is_own.ensures.own, inr (rows, inl (refl, refl, c.in_default-give_up.ensures))),
    ))

pub returns-in-Ok : goal.returns-in-Ok
returns-in-Ok c =
    let rows = rw (c.rows.ensures, c.deref.ensures, ← c.side-side.result.now.own) at c.in_default.ensures in
    rw (← c.is_live.ensures.same, c.side-side.ensures.value) (inr (
      (refl, refl, refl),
      fill_ends c.in-Some-give_up.ensures (Ok tt) refl c.in-Ok.ensures.fills refl c.if-not-is_own.ensures.own rows,
    ))

pub returns-in-Err-Closed : goal.returns-in-Err-Closed
returns-in-Err-Closed c =
    let rows = rw (c.rows.ensures, c.deref.ensures, ← c.side-side.result.now.own) at c.in_default.ensures in
    let fills = rw c.in-Err-Closed.field-0-is at c.in-Err-Closed.ensures.fills in
    rw (← c.is_live.ensures.same, c.side-side.ensures.value) (inr (
      (refl, refl, refl),
      fill_ends c.in-Some-give_up.ensures (Err unfilled.Closed) refl fills refl c.if-not-is_own.ensures.own rows,
    ))

pub returns-in-Err-NoSlot : goal.returns-in-Err-NoSlot
returns-in-Err-NoSlot c =
    let rows = rw (c.rows.ensures, c.deref.ensures, ← c.side-side.result.now.own) at c.in_default.ensures in
    let fills = rw c.in-Err-NoSlot.field-0-is at c.in-Err-NoSlot.ensures.fills in
    let back = unfilled.NoSlot c.in-Err-NoSlot.opened c.in-Err-NoSlot.counts in
    rw (← c.is_live.ensures.same, c.side-side.ensures.value) (inr (
      (refl, refl, refl),
      fill_ends c.in-Some-give_up.ensures (Err back) c.of_no_slot.ensures fills c.keep.ensures
          c.if-not-is_own.ensures.own rows,
    ))
