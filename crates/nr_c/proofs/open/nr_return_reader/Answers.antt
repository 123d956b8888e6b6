use Rattle.std.proofs.Common.{[], ◌∷◌, ◌++◌, ap, inl, inr, refl, ◌∙◌}
use Rattle.nr_c.proofs.open.nr_return_reader.Goals as goal

pub returns-then-is_err : goal.returns-then-is_err
returns-then-is_err c =
    let items = c.side-side.result.now.spare.items in
    rw (← c.is_live.ensures.same, c.side-side.ensures.value, ← c.is_live-else-not-is_live.ensures.same)
    (rw c.if-not-is_live-2.ensures.live.1
    (inr (tt, tt, inr (refl, items, ((refl, refl, refl), (refl, c.try_reserve.ensures.items)), refl))))

pub returns : goal.returns
returns c =
    let (held, holds) = c.if-not-is_live-2.ensures.live in
    let back = c.push_reserved.ensures.items
    ∙ ap (λ items. items ++ c.close.result ∷ []) c.try_reserve.ensures.items in
    rw (← c.is_live.ensures.same, c.side-side.ensures.value, ← c.is_live-else-not-is_live.ensures.same, holds)
    (inr (
      tt,
      tt,
      inl (
        refl,
        c.side-side.result.now.spare.items,
        c.close.result,
        (c.close.ensures.ends held holds, c.close.ensures.share held holds),
        ((refl, refl, refl), (refl, back)),
        c.close.ensures.empty,
      ),
    ))
