use Rattle.std.proofs.Common.{arith, refl, ℕ, ◌*◌, ◌+◌, ◌≡◌}
use Rattle.nr_board.proofs.Publishing.{put_more, put_none, puts_next}
use Rattle.nr_board.proofs.Rows.{row_words_at}
use Rattle.nr_board.specs.Views.{desk_of}
use Rattle.nr_board.proofs.board.Board.put_rows.Goals as goal

pub put-requires : goal.put-requires
put-requires g c =
    puts_next (put_none (desk_of c.args.seat.now.me.0.role) c.requires.writer c.requires.knows) c.content-begin.ensures
    (omega arith) refl

pub loop-i-init : goal.loop-i-init
loop-i-init g c =
    put_more (put_none (desk_of c.args.seat.now.me.0.role) c.requires.writer c.requires.knows) c.put.ensures

pub put-requires-in-loop-i : goal.put-requires-in-loop-i
put-requires-in-loop-i g c =
    puts_next c.loop-i.invariant c.content-begin.ensures (omega (arith, c.loop-i-test.true))
    (row_words_at c.args.rows.now c.loop-i.i _ c.loop-i-test.true).0

pub put-requires-in-loop-i-2 : goal.put-requires-in-loop-i-2
put-requires-in-loop-i-2 g c =
    puts_next (put_more c.loop-i.invariant c.put-in-loop-i.ensures) c.content-begin.ensures
    (omega (arith, c.loop-i-test.true)) (row_words_at c.args.rows.now c.loop-i.i _ c.loop-i-test.true).1

pub loop-i-preserved : goal.loop-i-preserved
loop-i-preserved g c =
    let i : ℕ = c.loop-i.i in
    let two_more : 2 * i + 1 + 1 + 1 ≡ 2 * (i + 1) + 1 = omega arith in
    rw two_more at
    (put_more (put_more c.loop-i.invariant c.put-in-loop-i.ensures) c.put-in-loop-i-2.ensures)
