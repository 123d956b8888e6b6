use Rattle.std.proofs.Common.{subst, sym}
use Rattle.nr_map.specs.Tagged.{FindsTaggedKept}
use Rattle.nr_map.specs.declared.tagged.Tagged.{Tagged}
use Rattle.nr_map.proofs.FirstRows.{read_behind}
use Rattle.nr_map.proofs.hand.Hand.find_tagged_kept.Goals as goal

pub returns-in-Rows-clause-finds : goal.returns-in-Rows-clause-finds
returns-in-Rows-clause-finds g c =
    subst
    (λ (answer : Tagged). FindsTaggedKept g.R.RowRoom.shows c.args.tag c.args.key c.args.self.now c.args.rows.now
    c.copy_behind.new.self c.copy_behind.new.rows answer)
    (sym c.in-Rows.is)
    (read_behind g.R.RowRoom.shows c.args.tag c.args.key c.args.self.now c.keep_tagged-found.new.self
    c.copy_behind.new.self c.args.rows.now c.copy_behind.new.rows c.in-Rows.ensures.keeps
    c.copy_behind.ensures.reads c.copy_behind.ensures.copied)
