use Rattle.std.proofs.Common.{arith, inl, inr, refl, Some, None}
use Rattle.nr_c.proofs.KeptUpqueries.{owes_all, turns}
use Rattle.nr_c.proofs.id_choices.nr_choose_id.Goals as goal

pub returns-then-are_all_asked : goal.returns-then-are_all_asked
returns-then-are_all_asked c =
    let asked = c.if-are_all_asked.ensures in
    let all = rw (c.group_of.ensures, c.deref.ensures, ← c.side-side.result.now.own) at asked.all in
    rw (← c.is_live.ensures.same, c.side-side.ensures.value) (inr (inr (
      omega arith,
      ((refl, refl, refl), inl (record { code_is = refl; all = all; stays = refl; keeps = refl; still = refl })),
    )))

pub returns-in-Some : goal.returns-in-Some
returns-in-Some c =
    let asked = c.if-are_all_asked.ensures in let chosen = c.in-Some.ensures in let stays = chosen.stays in
    let some = rw (c.group_of.ensures, c.deref.ensures, ← c.side-side.result.now.own) at asked.some in
    rw (← c.is_live.ensures.same, c.side-side.ensures.value) (turns (omega arith) (refl, refl, refl) (inr (record {
      some = some;
      chooses = owes_all stays.owes stays.asker refl (Some c.in-Some.named, refl, (refl, chosen.chooses, stays));
    })))

pub returns-in-None : goal.returns-in-None
returns-in-None c =
    let asked = c.if-are_all_asked.ensures in let chosen = c.in-None.ensures in let stays = chosen.stays in
    let some = rw (c.group_of.ensures, c.deref.ensures, ← c.side-side.result.now.own) at asked.some in
    rw (← c.is_live.ensures.same, c.side-side.ensures.value) (turns (omega arith) (refl, refl, refl) (inr (record {
      some = some;
      chooses = owes_all stays.owes stays.asker refl (None, refl, (refl, chosen.chooses, stays));
    })))
