use Rattle.nr_map.proofs.FirstRows.{found_first}
use Rattle.nr_map.proofs.hand.Hand.find_first.Goals as goal

pub returns-clause-finds : goal.returns-clause-finds
returns-clause-finds c =
    found_first c.args.key c.args.self.now c.keep.new.self c.copy_first.new.self c.args.cells.now
    c.copy_first.new.cells c.len.result c.if-not-keep.ensures.keeps c.copy_first.ensures.reads
    c.copy_first.ensures.cells c.len.ensures.len
