use Rattle.std.proofs.Common.{arith, length, ◌<◌, ◌≡◌}
use Rattle.std.proofs.lemmas.List.{nil_from_length}
use Rattle.nr_board.proofs.Searching.{lacks_none, searches_in}
use Rattle.nr_board.proofs.board.Board.take_retired.Goals as goal

pub search_retired-requires-clause-search : goal.search_retired-requires-clause-search
search_retired-requires-clause-search g c =
    let some_words : 0 < c.args.self.now.announcers
    = omega (arith, c.announcers.ensures.value, c.if-announcers-eq0.false) in
    let waits : 0 < length c.args.lists.now.retired
    = omega (arith, c.retired_len.ensures, c.if-retired_len-eq0.false) in
    searches_in c.args.self.now g.G.BegunCall.call c.args.rows.now c.args.lists.now c.args.seat.now c.requires.settles
    c.requires.none_fresh some_words waits

pub returns-clause-takes : goal.returns-clause-takes
returns-clause-takes g c =
    c.search_retired.ensures.searches g.G.BegunCall.call c.args.rows.now c.requires.settles c.requires.none_fresh

pub returns-then-retired_len-eq0-clause-takes : goal.returns-then-retired_len-eq0-clause-takes
returns-then-retired_len-eq0-clause-takes g c =
    let map = c.args.self.now in
    let lists = c.args.lists.now in
    let seat = c.args.seat.now in
    let some_words : 0 < map.announcers = omega (arith, c.announcers.ensures.value, c.if-announcers-eq0.false) in
    let none : length lists.retired ≡ 0 = omega (arith, c.retired_len.ensures, c.if-retired_len-eq0.true) in
    rw c.counts.ensures
    (lacks_none map g.G.BegunCall.call c.args.rows.now lists seat c.requires.settles c.requires.none_fresh some_words
    (nil_from_length lists.retired none))
