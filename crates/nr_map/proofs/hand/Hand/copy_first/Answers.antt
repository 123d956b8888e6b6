use Rattle.std.proofs.Common.{◌+◌, arith, ℕ, drop, min, length-drop}
use Rattle.nr_map.proofs.FirstRows.{copied_none, copied_on, put_whole}
use Rattle.nr_map.proofs.hand.Hand.copy_first.Goals as goal

pub loop-place-init : goal.loop-place-init
loop-place-init c =
    let count : ℕ = c.min-count.result in
    let none = copied_none c.args.from c.args.self.now c.args.cells.now (min 0 count) (omega arith) in
    let row_one = c.copy_where.ensures in
    let one = copied_on (min 1 count) none row_one.cells (omega arith) row_one.reads in
    let row_two = c.copy_where-2.ensures in
    let two = copied_on (min 2 count) one row_two.cells (omega arith) row_two.reads in
    let row_three = c.copy_where-3.ensures in
    let three = copied_on (min 3 count) two row_three.cells (omega arith) row_three.reads in
    let row_four = c.copy_where-4.ensures in
    let four = copied_on (min 4 count) three row_four.cells (omega arith) row_four.reads in
    record { own = row_four.own; copied = four }

pub loop-place-preserved : goal.loop-place-preserved
loop-place-preserved c =
    let count : ℕ = c.min-count.result in
    let made = c.copy_where-in-loop-place.ensures in
    record {
      own = made.own;
      copied =
          copied_on (min (c.loop-place.place + 1) count) c.loop-place.invariant.copied made.cells (omega arith)
          made.reads;
    }

pub returns-clause-cells : goal.returns-clause-cells
returns-clause-cells c =
    let had = c.loop-place.invariant.copied in
    put_whole (drop c.args.from c.args.self.now.rows) c.args.cells.now c.loop-place.cells
    (min c.loop-place.place c.min-count.result)
    (omega (arith, c.loop-place-test.false, c.min-count.ensures, length-drop c.args.from c.args.self.now.rows)) had.over
