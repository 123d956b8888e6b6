use Rattle.std.proofs.Common.{arith, inl, inr, refl}
use Rattle.nr_c.proofs.KeptUpqueries.{owes_all, turns}
use Rattle.nr_c.proofs.id_invalidations.nr_invalidate_id.Goals as goal

pub returns-in-Some : goal.returns-in-Some
returns-in-Some c =
    let first = c.group_of-first.ensures in let second = c.second_of-second.ensures in
    let own = c.side-side.result.now.own in
    let tells = rw (first, second, c.deref.ensures, c.deref-2.ensures, ← own) at c.in-Some.ensures in
    rw (← c.is_live.ensures.same, c.side-side.ensures.value)
    (turns (omega arith) (c.take_back.ensures.map, c.take_back.ensures.watch, c.take_back.ensures.spare)
    (inl (c.in-Some.upquery, tells, c.take_back.ensures.withdraws)))

pub returns-in-None : goal.returns-in-None
returns-in-None c =
    let first = c.group_of-first.ensures in let second = c.second_of-second.ensures in
    let own = c.side-side.result.now.own in
    let tells = rw (second, first, c.deref.ensures, c.deref-2.ensures, ← own) at c.in-None.ensures in
    let evicts = c.evict.ensures in
    rw (← c.is_live.ensures.same, c.side-side.ensures.value)
    (turns (omega arith) (refl, refl, refl)
    (inr (tells, owes_all evicts.owes evicts.asker refl (c.evict.result, c.of_evict.ensures, evicts.evicts))))
