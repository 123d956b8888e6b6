use Rattle.nr_board.specs.Views.{rows_held, view_of}
use Rattle.nr_map.proofs.FirstRows.{begins}
use Rattle.nr_map.proofs.token.Token.begins_with.Goals as goal

pub returns-then-first-tag-clause-begins : goal.returns-then-first-tag-clause-begins
returns-then-first-tag-clause-begins c =
    begins (rows_held (view_of c.args.self.now.seat).role) c.row-first.result c.args.tag c.row-first.ensures.row
    c.if-first-tag.true
