use Rattle.nr_map.proofs.FirstRows.{found_behind}
use Rattle.nr_map.proofs.hand.Hand.find_tagged_first.Goals as goal

pub returns-in-Rows-clause-finds : goal.returns-in-Rows-clause-finds
returns-in-Rows-clause-finds c =
    found_behind c.args.tag c.args.key c.args.self.now c.keep_tagged-found.new.self c.copy_first.new.self
    c.args.cells.now c.copy_first.new.cells c.len.result c.in-Rows.ensures.keeps c.copy_first.ensures.reads
    c.copy_first.ensures.cells c.len.ensures.len
