use Rattle.std.proofs.Common.{arith, refl, rules, subst, sym, ◌≡◌, ◌∙◌}
use Rattle.nr_board.proofs.ReadingOn.{begins, reads_all}
use Rattle.nr_board.specs.NamedRows.{ReadTo, ReadsAll, rows_named}
use Rattle.nr_board.specs.WriterSeats.{MapSeat}
use Rattle.nr_board.proofs.board.Board.read_set.Goals as goal

pub refill-requires : goal.refill-requires
refill-requires g c =
    let map = c.args.self.now in
    let call = g.G.BegunCall.call in
    let begin = c.content-begin.result in
    let mid = c.read_on-count.new.seat in
    let first
    = begins map c.args.self.now call begin c.args.slot c.read_on-count.result c.args.seat.now mid refl
    c.content-begin.ensures c.requires.key c.requires.writer c.read_on-count.ensures in
    record {
      count = first.0;
      row_set = (first.1.row_set.0, omega (arith, first.1.row_set.1, c.rows.ensures.value, c.rows.ensures.bounded));
      ready = subst (λ (before : MapSeat). ReadTo map call begin before mid 1) (sym c.of-before.ensures) first.1;
    }

pub returns : goal.returns
returns g c =
    let map = c.args.self.now in
    let call = g.G.BegunCall.call in
    let begin = c.content-begin.result in
    let mid = c.read_on-count.new.seat in
    let source = c.refill.new.source in
    let gave = c.refill.ensures.gave in
    let first
    = begins map c.args.self.now call begin c.args.slot c.read_on-count.result c.args.seat.now mid refl
    c.content-begin.ensures c.requires.key c.requires.writer c.read_on-count.ensures in
    let before : source.before.now.value ≡ c.args.seat.now = gave.3 ∙ c.of-before.ensures in
    let rows = rows_named map call mid in (
      rows,
      c.refill.ensures.set,
      subst (ReadsAll map call rows c.args.seat.now) (search rules)
          (reads_all map call source.begin c.args.seat.now mid source.seat.now source.before.now.value source.board.now
          c.read_on-count.result rows first.0 refl c.refill.ensures.rows gave.1 before c.refill.ensures.ready),
    )
