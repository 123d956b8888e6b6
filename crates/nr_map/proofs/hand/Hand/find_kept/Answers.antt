use Rattle.nr_map.proofs.Pinning.{finds_kept}
use Rattle.nr_map.proofs.hand.Hand.find_kept.Goals as goal

pub returns-clause-finds : goal.returns-clause-finds
returns-clause-finds g c =
    finds_kept g.R.RowRoom.shows c.args.key c.args.self.now c.keep.new.self c.copy_to.new.self c.args.rows.now
    c.copy_to.new.rows c.copy_to.ensures.reads c.copy_to.ensures.copied c.if-not-keep.ensures.keeps
