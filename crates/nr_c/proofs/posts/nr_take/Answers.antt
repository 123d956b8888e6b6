use Rattle.std.proofs.Common.{◌<◌, inl, inr, refl, sym, subst}
use Rattle.nr_c.proofs.posts.nr_take.Goals as goal

pub returns-in-Err : goal.returns-in-Err
returns-in-Err c =
    rw (← c.is_live.ensures.same, c.side-side.ensures.value) (inr (
      (refl, refl),
      (
        c.in-Err.ensures.own,
        c.in-Err.ensures.tries,
        inr (c.in-Err.fault, c.of_take_fault.ensures, c.in-Err.ensures.taken, c.in-Err.ensures.empty, refl, refl),
      ),
    ))

pub returns-in-Ok : goal.returns-in-Ok
returns-in-Ok c =
    let (taken, below) = c.in-Ok.ensures.taken in
    rw (← c.is_live.ensures.same, c.side-side.ensures.value) (inr (
      (refl, refl),
      (
        c.in-Ok.ensures.own,
        c.in-Ok.ensures.tries,
        inl (
          refl,
          c.in-Ok.trigger,
          taken,
          λ i. record { key = sym c.into_key.ensures i; number = sym c.number.ensures i },
          subst (λ k. k < c.side-side.result.now.taker.keys) (sym c.into_key.ensures) below,
        ),
      ),
    ))
