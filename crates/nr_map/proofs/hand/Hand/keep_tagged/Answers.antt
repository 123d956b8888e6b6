use Rattle.nr_map.proofs.FirstRows.{kept_other, kept_tagged}
use Rattle.nr_map.proofs.hand.Hand.keep_tagged.Goals as goal

pub returns-then-begins_with-clause-keeps : goal.returns-then-begins_with-clause-keeps
returns-then-begins_with-clause-keeps c =
    kept_tagged c.args.tag c.args.key c.args.self.now c.keep.new.self c.begins_with.new.self
    c.if-not-keep.ensures.keeps c.begins_with.ensures.reads (c.begins_with.ensures.begins.0 c.if-begins_with.true)

pub returns-clause-keeps : goal.returns-clause-keeps
returns-clause-keeps c =
    kept_other c.args.tag c.args.key c.args.self.now c.keep.new.self c.begins_with.new.self
    c.if-not-keep.ensures.keeps c.begins_with.ensures.reads
    (λ has. let yes = c.begins_with.ensures.begins.1 has in let no = c.if-begins_with.false in absurd (cc))
