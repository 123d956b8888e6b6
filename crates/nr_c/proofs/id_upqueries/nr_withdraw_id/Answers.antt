use Rattle.std.proofs.Common.{inl, inr, refl}
use Rattle.nr_c.proofs.id_upqueries.nr_withdraw_id.Goals as goal

pub returns-then-not-is_own : goal.returns-then-not-is_own
returns-then-not-is_own c =
    rw (← c.is_live.ensures.same, c.side-side.ensures.value) (inr (
      (refl, refl, refl),
      inl (record { code_is = refl; other = c.if-not-is_own.ensures.other; stays = refl; keeps = refl; told = tt }),
    ))

pub returns : goal.returns
returns c = rw (← c.is_live.ensures.same, c.side-side.ensures.value) (inr (
  (c.take_back.ensures.map, c.take_back.ensures.watch, c.take_back.ensures.spare),
  inr (c.if-not-is_own.ensures.own, c.take_back.ensures.withdraws),
))
