use Rattle.std.specs.Prelude.{◌≡◌, min}
use Rattle.nr_map.proofs.FirstRows.{CopiedSoFar}
use Rattle.nr_map.proofs.hand.Hand.copy_first.Given as goal

abbrev pub invariant-loop-place : goal.invariant-loop-place
invariant-loop-place l = record {
  own : l.self.reader.table ≡ l.map;
  copied : CopiedSoFar l.from l.fn.self l.fn.cells (min l.place l.count) l.self l.cells;
}
