use Rattle.std.proofs.Common.{Err, ap, inl, inr, refl, ◌∙◌}
use Rattle.nr_c.proofs.open.nr_open.Goals as goal

pub returns-in-Err-BadSize : goal.returns-in-Err-BadSize
returns-in-Err-BadSize c =
    let bad = c.opened.ensures.bad_size.0 (c.in-Err-BadSize.is ∙ ap Err c.in-Err-BadSize.field-0-is) in
    rw (← c.is_live.ensures.same, c.if-is_live.ensures.empty)
    (inr (refl, ((λ e. bad, λ b. refl), inr (inl refl, refl))))
