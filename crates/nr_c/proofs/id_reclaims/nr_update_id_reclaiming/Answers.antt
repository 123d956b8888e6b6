use Rattle.std.proofs.Common.{arith, inl, inr, refl}
use Rattle.nr_c.proofs.KeptUpqueries.{owes_all, turns}
use Rattle.nr_c.proofs.id_reclaims.nr_update_id_reclaiming.Goals as goal

pub returns-in-Some : goal.returns-in-Some
returns-in-Some c =
    let refused = c.in-Some.ensures in
    rw (← c.is_live.ensures.same, c.side-side.ensures.value)
    (inr (inr (omega arith, ((refl, refl, refl), owes_all (λ way. refl) refl refl (inl (refused, refl, refl))))))

pub returns : goal.returns
returns c =
    let updates = rw (c.deref.ensures, ← c.side-side.result.now.own) at c.update_reclaiming-answer.ensures.updates in
    let made = c.update_reclaiming-answer in
    rw (← c.is_live.ensures.same, c.side-side.ensures.value)
    (turns (omega arith) (refl, refl, refl) (owes_all made.ensures.owes made.ensures.asker refl
    (inr (
      c.in_default.ensures,
      (made.result, c.of_id_update_reclaiming.ensures, (updates, made.ensures.absent)),
    ))))
