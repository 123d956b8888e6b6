use Rattle.std.proofs.Common.{arith, ◌∙◌}
use Rattle.std.proofs.lemmas.List.{get_or-set_other}
use Rattle.nr_board.specs.Meetings.{Gathers}
use Rattle.nr_load.proofs.Gathering.{gathered, learns_sound, learns_stays, one_more, stays_then}
use Rattle.nr_load.proofs.tally.gather_all.Goals as goal

pub loop-reader-preserved : goal.loop-reader-preserved
loop-reader-preserved c =
    let i = c.loop-reader.invariant in let learns = c.gather.ensures.of_reader.learns in
    let gathers : Gathers c.loop-reader.writer c.reader-item.result c.gather.new.writer c.gather.new.reader =
    rw c.reader-item.is c.gather.ensures in
    record {
      stays = stays_then _ c.loop-reader.writer _ i.stays (learns_stays 2 _ _ learns);
      sound = λ some. learns_sound 2 _ _ learns;
      done =
          one_more c.calls_stay.ensures c.args.writer.now.seen c.loop-reader.writer c.gather.new.writer
          c.reader-item.result c.gather.new.reader c.args.readers.now c.loop-reader.readers
          c.loop-reader.reader-index (omega arith) c.loop-reader.auto.readers c.reader-item.is learns.seen
          (gathered c.args.writer.now.seen c.loop-reader.writer c.reader-item.result c.gather.new.writer
          c.gather.new.reader gathers i.stays.seen)
          i.done i.rest;
      rest = λ at other later. get_or-set_other c.loop-reader.readers c.loop-reader.reader-index at c.gather.new.reader
          other (omega arith)
          ∙ i.rest at other (omega arith);
    }
