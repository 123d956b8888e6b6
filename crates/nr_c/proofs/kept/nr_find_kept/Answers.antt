use Rattle.std.proofs.Common.{inr, refl}
use Rattle.nr_c.proofs.kept.nr_find_kept.Goals as goal

pub returns : goal.returns
returns c =
    let heard = rw c.of_found-answer.ensures at c.heard.ensures in
    let finds = rw c.hold_for.ensures at c.find_kept.ensures.finds in
    rw (← c.is_live.ensures.same, c.side-side.ensures.value)
    (inr (inr (c.if-not-has_key.ensures.has, (c.find_kept.result, ((refl, heard), finds)))))
