use Rattle.std.proofs.Common.{inl, inr, refl}
use Rattle.nr_c.proofs.reclaims.nr_replace_reclaiming.Goals as goal

pub returns-in-Some : goal.returns-in-Some
returns-in-Some c =
    let refused = rw (c.rows.ensures.value, c.deref.ensures, ← c.side-side.result.now.own) at c.in-Some.ensures in
    rw (← c.is_live.ensures.same, c.side-side.ensures.value)
    (inr (inr (c.if-not-has_key.ensures.has, ((refl, refl, refl), inl ((refused, refl), refl)))))

pub returns : goal.returns
returns c =
    let rows = rw (c.rows.ensures.value, c.deref.ensures, ← c.side-side.result.now.own) at c.in_default.ensures in
    let made = c.replace_reclaiming-answer in
    rw (← c.is_live.ensures.same, c.side-side.ensures.value)
    (inr (inr (
      c.if-not-has_key.ensures.has,
      ((refl, refl, refl), inr (rows, (made.result, c.of_replace_reclaiming.ensures, made.ensures))),
    )))
