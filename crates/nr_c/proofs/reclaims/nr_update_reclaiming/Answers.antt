use Rattle.std.proofs.Common.{inl, inr, refl}
use Rattle.nr_c.proofs.reclaims.nr_update_reclaiming.Goals as goal

pub returns-then-not-are_batch : goal.returns-then-not-are_batch
returns-then-not-are_batch c =
    let none = c.if-not-are_batch.ensures.none in
    rw (← c.is_live.ensures.same, c.side-side.ensures.value)
    (inr (inr (c.if-not-has_key.ensures.has, ((refl, refl, refl), inl ((refl, none, refl), refl)))))

pub returns : goal.returns
returns c =
    let made = c.update_reclaiming-answer in
    let updates = rw (c.deref.ensures, ← c.side-side.result.now.own) at made.ensures in
    let batch = c.if-not-are_batch.ensures.batch in
    rw (← c.is_live.ensures.same, c.side-side.ensures.value)
    (inr (inr (
      c.if-not-has_key.ensures.has,
      ((refl, refl, refl), inr (batch, (made.result, c.of_update_reclaiming.ensures, updates))),
    )))
