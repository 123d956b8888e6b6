use Rattle.std.proofs.Common.{subst, sym}
use Rattle.nr_board.specs.WriterAnswers.{UpdatesKey}
use Rattle.nr_map.specs.SlotBounds.{HasRoomForAll}
use Rattle.nr_tour.proofs.map.sizes.update.Goals as goal

pub returns-clause-slot : goal.returns-clause-slot
returns-clause-slot c counts none =
    let slots = subst HasRoomForAll (sym c.requires.own) c.requires.room in
    c.room_for_updates.ensures _ _ _ _ c.update.new.writer counts slots
    (subst (UpdatesKey _ _ _ _ _) none c.update.ensures)
