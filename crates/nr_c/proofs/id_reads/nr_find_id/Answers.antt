use Rattle.std.proofs.Common.{arith, inr, refl}
use Rattle.nr_c.proofs.id_reads.nr_find_id.Goals as goal

pub returns : goal.returns
returns c =
    rw (← c.is_live.ensures.same, c.side-side.ensures.value) (inr (inr (
      omega arith,
      inr (
        c.of_found_id-answer.result,
        (
          (refl, c.heard.ensures),
          record {
            was_idle = c.if-holds.ensures.none;
            is_idle = c.find.ensures.idle;
            became_so = (c.find.result, c.of_found_id-answer.ensures, c.find.ensures.finds);
          },
        ),
      ),
    )))
