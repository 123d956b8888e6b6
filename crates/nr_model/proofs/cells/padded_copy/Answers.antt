use Rattle.std.proofs.Common.{arith}
use Rattle.nr_model.proofs.PaddedLemmas.{padded_more}
use Rattle.nr_model.proofs.cells.padded_copy.Goals as goal

pub loop-i-preserved : goal.loop-i-preserved
loop-i-preserved g c =
    rw c.loop-i.invariant
    (padded_more c.args.items.now c.loop-i.i g.row.ROOM c.args.filler _ c.index-items-i.is (omega arith)
    (omega arith))
