use Rattle.nr_board.proofs.Gathering.{gathers_seats}
use Rattle.nr_map.proofs.HandSteps.{hand_role}
use Rattle.nr_map.proofs.reader_map.ReaderMap.gather_hand.Goals as goal

pub returns-clause-gathers : goal.returns-clause-gathers
returns-clause-gathers c =
    let hear = c.hear in
    let tell = c.hear-2 in
    let role = hand_role c.hand.inside.caller.own c.hand.inside.held c.hand.inside.caller.seat c.hand.invariant in
    rw (← c.writer.view_is, ← c.hand.view_is)
    (gathers_seats c.writer.inside.seat c.hand.inside.caller.seat hear.new.seat hear.new.other tell.new.other
    tell.new.seat _ _ _ _ _ c.writer.invariant.0.writes.role role.1 hear.ensures.role.1
    hear.ensures.other tell.ensures.other hear.ensures.meets tell.ensures.meets hear.ensures.readers
    tell.ensures.readers)
