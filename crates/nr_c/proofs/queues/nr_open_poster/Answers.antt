use Rattle.std.proofs.Common.{◌≡◌, [], append-nil, arith, inl, inr, refl}
use Rattle.std.proofs.lemmas.Grind.{common_steps}
use Rattle.nr_c.proofs.queues.nr_open_poster.Goals as goal

pub returns-then-is_live : goal.returns-then-is_live
returns-then-is_live c =
    let lives = c.if-not-is_live.ensures.live in let other = c.if-is_live.ensures.live in
    rw (← c.is_live.ensures.same, ← c.is_live-2.ensures.same, lives.1, other.1)
    (inr (inl (refl, tt, tt, refl, refl)))

pub returns-in_default : goal.returns-in_default
returns-in_default c =
    let none : c.side-side.result.now.spare.items ≡ []
    = grind (arith, common_steps, c.in_default.ensures.items, c.in_default.ensures.variant) in
    let left : c.pop.new.self.items ≡ [] = cc (append-nil c.pop.new.self.items, c.in_default.ensures.items) in
    rw (← c.is_live.ensures.same, c.side-side.ensures.value, ← c.is_live-2.ensures.same, c.if-is_live.ensures.empty)
    (inr (inr (tt, refl, inl (refl, ((refl, refl), (none, left)), refl))))

pub returns-in-Ok : goal.returns-in-Ok
returns-in-Ok c =
    rw (← c.is_live.ensures.same, c.side-side.ensures.value, ← c.is_live-2.ensures.same, c.if-is_live.ensures.empty)
    (rw c.lead_to.ensures (inr (inr (
      tt,
      refl,
      inr (inl (
        refl,
        c.pop.new.self.items,
        c.in-Some.next,
        ((refl, refl), (c.in-Some.ensures.items, refl)),
        c.in-Ok.ensures.ok,
      )),
    ))))

pub returns-in-Err : goal.returns-in-Err
returns-in-Err c =
    let back = c.in-Err.ensures.back in
    rw (← c.is_live.ensures.same, c.side-side.ensures.value, ← c.is_live-2.ensures.same, c.if-is_live.ensures.empty)
    (inr (inr (
      tt,
      refl,
      inr (inr (
        refl,
        c.pop.new.self.items,
        c.in-Some.next,
        ((refl, refl), (c.in-Some.ensures.items, cc c.push_reserved.ensures.items)),
        refl,
      )),
    )))
