use Rattle.std.proofs.Common.{arith, length, refl, ◌*◌, ◌+◌, ◌<◌}
use Rattle.nr_board.proofs.ReadingOn.{read_row, reading_next, reading_second}
use Rattle.nr_board.specs.NamedRows.{rows_named}
use Rattle.nr_board.proofs.named_rows.NamedRowsRowSource.give.Goals as goal

pub read_on-a-requires : goal.read_on-a-requires
read_on-a-requires g c = let source = c.args.self.now in let index = 2 * c.args.place + 1 in
    let left : index < 2 * length (rows_named source.board.now g.G.BegunCall.call source.seat.now) + 1
    = omega (arith, c.requires.more) in
    reading_next source.board.now g.G.BegunCall.call source.begin source.before.now.value source.seat.now index
    c.requires.ready left

pub read_on-b-requires : goal.read_on-b-requires
read_on-b-requires g c = let source = c.args.self.now in
    reading_second source.board.now g.G.BegunCall.call source.begin source.before.now.value source.seat.now
    c.read_on-a.new.seat c.args.place c.read_on-a.result c.requires.ready c.requires.more c.read_on-a.ensures

pub returns : goal.returns
returns g c = let source = c.args.self.now in
    let read
    = read_row source.board.now g.G.BegunCall.call source.begin source.before.now.value source.seat.now
    c.read_on-a.new.seat c.args.place
    c.read_on-a.result c.requires.ready c.requires.more c.read_on-a.ensures c.read_on-b.result c.read_on-b.new.seat
    c.read_on-b.ensures in
    record { row = read.1; rows = read.0; ready = read.2; gave = (refl, refl, refl, refl) }
