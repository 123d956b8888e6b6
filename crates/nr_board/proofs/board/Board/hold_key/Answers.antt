use Rattle.std.proofs.Common.{Bool, ap, arith, cond, ◌<◌, ◌∙◌}
use Rattle.nr_core.specs.Slots.{name_number}
use Rattle.nr_core.specs.Marks.{Marks, acted, with_look}
use Rattle.nr_core.specs.Puts.{put_number}
use Rattle.nr_board.proofs.Holding.{finds_none, finds_so, holds_first}
use Rattle.nr_board.proofs.Looks.{is_empty, is_full}
use Rattle.nr_board.specs.Callers.{Table}
use Rattle.nr_board.proofs.board.Board.hold_key.Goals as goal

pub returns-then-not-parts : goal.returns-then-not-parts
returns-then-not-parts c =
    let map = c.args.self.now in
    let key = c.args.key in
    let before = c.args.seat.now in
    let after = c.look_at_key-word.new.seat in
    let word = c.look_at_key-word.result in
    let told = c.look_at_key-word.ensures in
    let announcers = ap (λ (t : Table). t.announcers) c.requires.reader.own in
    let within : c.args.own.index < before.me.0.announcers
    = omega (arith, c.if-own-announcers.false, c.announcers.ensures, announcers) in
    let empty = is_empty word c.parts.ensures.parts c.if-not-parts.true in
    let looked = with_look before.me.0.marks key (name_number word) in
    rw (finds_so c.args.own.index before c.requires.number within)
    (finds_none map key word empty before after told.reader (told.hole empty)
    (told.marks
    ∙ ap (λ (b : Bool). cond {A = Marks} b looked (acted looked (put_number after.me.0.seen key))) empty))

pub returns : goal.returns
returns c =
    let map = c.args.self.now in
    let key = c.args.key in
    let before = c.args.seat.now in
    let mid = c.look_at_key-word.new.seat in
    let word = c.look_at_key-word.result in
    let told = c.look_at_key-word.ensures in
    let announcers = ap (λ (t : Table). t.announcers) c.requires.reader.own in
    let within : c.args.own.index < before.me.0.announcers
    = omega (arith, c.if-own-announcers.false, c.announcers.ensures, announcers) in
    let full = is_full word c.parts.ensures.parts c.if-not-parts.false in
    let looked = with_look before.me.0.marks key (name_number word) in
    rw (finds_so c.args.own.index before c.requires.number within)
    (holds_first map key word full before mid c.hold_named.new.seat c.hold_named.result told.reader.idle
    (told.named full)
    (told.marks ∙ ap (λ (b : Bool). cond {A = Marks} b looked (acted looked (put_number mid.me.0.seen key))) full)
    c.hold_named.ensures)
