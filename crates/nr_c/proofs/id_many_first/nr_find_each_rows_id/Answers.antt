use Rattle.std.proofs.Common.{inr, refl}
use Rattle.nr_c.proofs.id_many_first.nr_find_each_rows_id.Goals as goal

pub returns : goal.returns
returns c =
    rw (← c.is_live.ensures.same, c.side-side.ensures.value)
    (inr (inr (
      c.are_found_ids.ensures.0 c.if-not-are_found_ids.false,
      inr (
        refl,
        (
          refl,
          (
            c.if-holds.ensures.none,
            record {
              room = c.room_for-room.result;
              room_is = c.room_for-room.ensures.room;
              last = (c.find_ids_first.new.hand, c.find_ids_first.ensures.finds.0);
              finds = c.find_ids_first.ensures.finds.1;
              lets_go = c.release.ensures.lets_go;
            },
          ),
        ),
      ),
    )))
