use Rattle.std.proofs.Common.{inr, refl}
use Rattle.nr_c.proofs.id_many.nr_find_each_id.Goals as goal

pub returns : goal.returns
returns c =
    rw (← c.is_live.ensures.same, c.side-side.ensures.value)
    (inr (inr (
      c.are_ids.ensures.0 c.if-not-are_ids.false,
      inr (
        refl,
        (
          refl,
          (
            c.if-holds.ensures.none,
            (
              (c.find_all_ids.new.hand, c.find_all_ids.ensures.finds.0),
              c.find_all_ids.ensures.finds.1,
              c.release.ensures.lets_go,
            ),
          ),
        ),
      ),
    )))
