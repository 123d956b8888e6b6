use Rattle.std.proofs.Common.{Bool, ap, arith, cond, refl, sym, ℕ}
use Rattle.nr_c.specs.Numbers.{answer_done, answer_nothing}
use Rattle.nr_c.proofs.KeptUpqueries.{owes_all, turns}
use Rattle.nr_c.proofs.id_choices.nr_uses_id.Goals as goal

pub returns-else-used : goal.returns-else-used
returns-else-used c =
    let stays = c.uses-used.ensures.stays in
    let code = ap (λ (b : Bool). cond {A = ℕ} b answer_done answer_nothing) (sym c.if-used.false) in
    rw (← c.is_live.ensures.same, c.side-side.ensures.value)
    (turns (omega arith) (refl, refl, refl) (owes_all stays.owes stays.asker refl
    (c.uses-used.result, code, (c.uses-used.ensures.uses, stays))))
