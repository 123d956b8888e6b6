use Rattle.nr_map.proofs.FirstRows.{begins}
use Rattle.nr_map.proofs.hand.Hand.begins_with.Goals as goal

pub returns-then-first-tag-clause-begins : goal.returns-then-first-tag-clause-begins
returns-then-first-tag-clause-begins c =
    begins c.args.self.now.rows c.row-first.result c.args.tag c.row-first.ensures.row c.if-first-tag.true
