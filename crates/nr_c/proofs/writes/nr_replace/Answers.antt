use Rattle.std.proofs.Common.{inl, inr, refl}
use Rattle.nr_c.proofs.writes.nr_replace.Goals as goal

pub returns-in-Some : goal.returns-in-Some
returns-in-Some c =
    let refused = rw (c.rows.ensures.value, c.deref.ensures, ← c.side-side.result.now.own) at c.in-Some.ensures in
    rw (← c.is_live.ensures.same, c.side-side.ensures.value)
    (inr (inr (c.if-not-has_key.ensures.has, ((refl, refl, refl), inl (refused, refl)))))

pub returns : goal.returns
returns c =
    let rows = rw (c.rows.ensures.value, c.deref.ensures, ← c.side-side.result.now.own) at c.in_default.ensures in
    rw (← c.is_live.ensures.same, c.side-side.ensures.value)
    (inr (inr (
      c.if-not-has_key.ensures.has,
      ((refl, refl, refl), inr (rows, (c.replace_rows.result, c.of_replace.ensures, c.replace_rows.ensures))),
    )))
