use Rattle.std.proofs.Common.{arith, inl, inr, refl}
use Rattle.nr_c.proofs.KeptUpqueries.{owes_all, turns}
use Rattle.nr_c.proofs.id_reclaims.nr_replace_id_reclaiming.Goals as goal

pub returns-in-Some : goal.returns-in-Some
returns-in-Some c =
    let refused = rw (c.rows.ensures, c.deref.ensures, ← c.side-side.result.now.own) at c.in-Some.ensures in
    rw (← c.is_live.ensures.same, c.side-side.ensures.value)
    (inr (inr (omega arith, ((refl, refl, refl), owes_all (λ way. refl) refl refl (inl (refused, refl, refl))))))

pub returns : goal.returns
returns c =
    let rows = rw (c.rows.ensures, c.deref.ensures, ← c.side-side.result.now.own) at c.in_default.ensures in
    let made = c.replace_reclaiming-answer in let does = made.ensures in
    rw (← c.is_live.ensures.same, c.side-side.ensures.value)
    (turns (omega arith) (refl, refl, refl) (owes_all does.owes does.asker refl
    (inr (rows, (made.result, c.of_id_replace_reclaiming.ensures, (does.replaces, does.absent))))))
