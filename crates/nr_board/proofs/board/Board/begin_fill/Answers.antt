use Rattle.std.proofs.Common.{arith}
use Rattle.nr_model.specs.declared.calls.Reply.TheVariants as reply
use Rattle.nr_board.proofs.Looks.{fill_already, fill_not_asked, fill_settles, fill_stale, has_looked}
use Rattle.nr_board.proofs.WriterCalls.{look_ends, look_settles}
use Rattle.nr_board.proofs.board.Board.begin_fill.Goals as goal

pub returns-then-found : goal.returns-then-found
returns-then-found g c =
    let looks = has_looked c.requires.rests c.requires.own c.requires.call c.look.ensures in
    let told = look_ends looks reply.Already (fill_already looks c.parts-found.ensures.parts c.if-found.true) in
    (told.0, told.1, told.1.1.2)

pub returns-then-not-found : goal.returns-then-not-found
returns-then-not-found g c =
    let looks = has_looked c.requires.rests c.requires.own c.requires.call c.look.ensures in
    let parts = c.parts-found.ensures.parts in
    let told = look_ends looks reply.NotAsked (fill_not_asked looks parts c.if-found.false c.if-not-found.true) in
    (told.0, told.1, told.1.1.2)

pub returns-then-from-number : goal.returns-then-from-number
returns-then-from-number g c =
    let looks = has_looked c.requires.rests c.requires.own c.requires.call c.look.ensures in
    let parts = c.parts-found.ensures.parts in
    let told
    = look_ends looks reply.Stale
    (fill_stale looks parts c.if-found.false c.if-not-found.false
    (λ own. omega (arith, own, c.from.ensures, c.if-from-number.true))) in
    (told.0, told.1, told.1.1.2)

pub returns : goal.returns
returns g c =
    let looks = has_looked c.requires.rests c.requires.own c.requires.call c.look.ensures in
    let parts = c.parts-found.ensures.parts in
    look_settles looks
    (fill_settles looks parts c.if-found.false c.if-not-found.false
    (omega (arith, c.from.ensures, c.if-from-number.false)))
