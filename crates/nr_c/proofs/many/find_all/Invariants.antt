use Rattle.std.specs.Prelude.{◌≡◌}
use Rattle.nr_c.specs.Many.{FindsAtByCode}
use Rattle.nr_c.proofs.FindsMade.{Made}
use Rattle.nr_c.proofs.many.find_all.Given as goal

abbrev pub invariant-loop-place : goal.invariant-loop-place
invariant-loop-place l = record {
  own : l.hand.reader.table ≡ l.map;
  made : Made FindsAtByCode (l.fn.hand, l.fn.watch) l.fn.wanted l.place (l.hand, l.watch) l.wanted;
}
