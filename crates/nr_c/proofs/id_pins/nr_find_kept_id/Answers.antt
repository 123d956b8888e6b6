use Rattle.std.proofs.Common.{arith, inr, refl}
use Rattle.nr_c.proofs.id_pins.nr_find_kept_id.Goals as goal

pub returns : goal.returns
returns c =
    rw (← c.is_live.ensures.same, c.side-side.ensures.value) (inr (inr (
      omega arith,
      (
        c.of_found_id-answer.result,
        ((refl, c.heard.ensures), (c.find_kept.result, c.of_found_id-answer.ensures, c.find_kept.ensures.finds)),
      ),
    )))
