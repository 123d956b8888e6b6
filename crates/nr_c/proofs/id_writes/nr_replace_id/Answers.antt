use Rattle.std.proofs.Common.{arith, inl, inr, refl}
use Rattle.nr_c.proofs.KeptUpqueries.{owes_all, turns}
use Rattle.nr_c.proofs.id_writes.nr_replace_id.Goals as goal

pub returns-in-Some : goal.returns-in-Some
returns-in-Some c =
    let refused = rw (c.rows.ensures, c.deref.ensures, ← c.side-side.result.now.own) at c.in-Some.ensures in
    rw (← c.is_live.ensures.same, c.side-side.ensures.value)
    (inr (inr (omega arith, ((refl, refl, refl), owes_all (λ way. refl) refl refl (inl (refused, refl))))))

pub returns : goal.returns
returns c =
    let rows = rw (c.rows.ensures, c.deref.ensures, ← c.side-side.result.now.own) at c.in_default.ensures in
    let made = c.replace in
    rw (← c.is_live.ensures.same, c.side-side.ensures.value)
    (turns (omega arith) (refl, refl, refl) (owes_all made.ensures.owes made.ensures.asker refl
    (inr (rows, (made.result, c.of_id_replace.ensures, made.ensures.replaces)))))
