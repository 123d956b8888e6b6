use Rattle.std.proofs.Common.{◌≡◌, ◌-◌, ◌++◌, take, replicate}
use Rattle.nr_model.proofs.cells.padded_copy.Given as goal

abbrev pub invariant-loop-i : goal.invariant-loop-i
invariant-loop-i g l = l.cells ≡ take l.i l.items ++ replicate (g.row.ROOM - l.i) l.fn.filler
