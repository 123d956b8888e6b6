use Rattle.std.proofs.Common.{inl, inr, refl}
use Rattle.nr_c.proofs.writes.nr_update.Goals as goal

pub returns-then-not-are_batch : goal.returns-then-not-are_batch
returns-then-not-are_batch c =
    let none = c.if-not-are_batch.ensures.none in
    rw (← c.is_live.ensures.same, c.side-side.ensures.value)
    (inr (inr (c.if-not-has_key.ensures.has, ((refl, refl, refl), inl (refl, none, refl)))))

pub returns : goal.returns
returns c =
    let updates = rw (c.deref.ensures, ← c.side-side.result.now.own) at c.update_rows.ensures in
    let batch = c.if-not-are_batch.ensures.batch in
    rw (← c.is_live.ensures.same, c.side-side.ensures.value)
    (inr (inr (
      c.if-not-has_key.ensures.has,
      ((refl, refl, refl), inr (batch, (c.update_rows.result, c.of_update.ensures, updates))),
    )))
