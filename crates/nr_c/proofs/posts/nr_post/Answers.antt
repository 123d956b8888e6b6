use Rattle.std.proofs.Common.{◌<◌, ◌≤◌, Err, IfErr, MatchResult, Ok, Result, arith, inl, inr, refl}
use Rattle.nr_trigger.specs.declared.faults.PostFault.{PostFault}
use Rattle.nr_c.proofs.posts.nr_post.Goals as goal

-- what is said of each answer and what is said of a fault alone
both : (posted stays : Type 0) (told : PostFault → Type 0) (answer : Result (Unit {0}) PostFault)
    → MatchResult answer (λ _. posted) (λ _. stays) → IfErr answer told
    → MatchResult answer (λ _. posted) (λ fault. stays × told fault)
both posted stays told (Ok done) one other = one
both posted stays told (Err fault) one other = (one, other)

pub returns-then-key-side : goal.returns-then-key-side
returns-then-key-side c =
    let side = c.side-side.result.now in
    let above : side.poster.keys ≤ c.args.key = omega (arith, c.if-key-side.true, side.below) in
    rw (← c.is_live.ensures.same, c.side-side.ensures.value) (inr (inl (refl, tt, refl, above)))

pub returns : goal.returns
returns c =
    let side = c.side-side.result.now in
    let below : c.args.key < side.poster.keys = omega (arith, c.if-key-side.false, side.below) in
    let full = rw c.deref.ensures at c.try_post.ensures.full in
    rw (← c.is_live.ensures.same, c.side-side.ensures.value) (inr (inr (
      below,
      (
        refl,
        (
          c.try_post.ensures.own,
          c.try_post.ensures.tries,
          c.try_post.result,
          c.of_post.ensures,
          both _ _ _ c.try_post.result c.try_post.ensures.posted full,
        ),
      ),
    )))
