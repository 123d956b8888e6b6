use Rattle.std.proofs.Common.{◌≡◌, [], ◌∷◌, ◌++◌, ap, inl, inr, refl, subst, ◌∙◌}
use Rattle.nr_c.specs.Endings.{HasEnded}
use Rattle.nr_c.specs.declared.poster_side.PosterSide.{PosterSide}
use Rattle.nr_c.proofs.queues.nr_return_poster.Goals as goal

pub returns-then-is_err : goal.returns-then-is_err
returns-then-is_err c =
    let items = c.side-side.result.now.spare.items in
    rw (← c.is_live.ensures.same, c.side-side.ensures.value, ← c.is_live-else-not-is_live.ensures.same)
    (rw c.if-not-is_live-2.ensures.live.1
    (inr (tt, tt, inr (refl, items, ((refl, refl), (refl, c.try_reserve.ensures.items)), refl))))

pub returns : goal.returns
returns c =
    let side = c.side-side.result.now in let (held, holds) = c.if-not-is_live-2.ensures.live in
    let back : c.push_reserved.new.self.items ≡ side.spare.items ++ held.poster ∷ [] = c.push_reserved.ensures.items
    ∙ ap (λ items. items ++ c.close-queue.result.poster ∷ []) c.try_reserve.ensures.items
    ∙ ap (λ (one : PosterSide). side.spare.items ++ one.poster ∷ [])
    (c.close-queue.ensures.ends held holds) in
    rw (← c.is_live.ensures.same, c.side-side.ensures.value, ← c.is_live-else-not-is_live.ensures.same, holds)
    (inr (
      tt,
      tt,
      inl (
        refl,
        side.spare.items,
        (
          subst (λ (one : PosterSide). HasEnded one.queue) (c.close-queue.ensures.ends held holds) c.leave.ensures,
          ((refl, refl), (refl, back)),
        ),
        c.close-queue.ensures.empty,
      ),
    ))
