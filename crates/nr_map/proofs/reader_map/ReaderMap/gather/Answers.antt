use Rattle.nr_board.proofs.Gathering.{gathers_seats}
use Rattle.nr_map.proofs.reader_map.ReaderMap.gather.Goals as goal

pub returns : goal.returns
returns c =
    let hear = c.hear in
    let tell = c.hear-2 in
    rw (← c.writer.view_is, ← c.reader.view_is)
    (gathers_seats c.writer.inside.seat c.reader.inside.caller.seat hear.new.seat hear.new.other tell.new.other
    tell.new.seat _ _ _ _ _ c.writer.invariant.0.writes.role c.reader.invariant.1.idle hear.ensures.role.1
    hear.ensures.other tell.ensures.other hear.ensures.meets tell.ensures.meets hear.ensures.readers
    tell.ensures.readers)
