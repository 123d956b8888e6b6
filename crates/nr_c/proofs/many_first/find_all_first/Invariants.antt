use Rattle.std.specs.Prelude.{◌≡◌}
use Rattle.nr_c.specs.ManyFirst.{FindsAtFirst}
use Rattle.nr_c.proofs.FindsMade.{Made}
use Rattle.nr_c.proofs.many_first.find_all_first.Given as goal

abbrev pub invariant-loop-place : goal.invariant-loop-place
invariant-loop-place l = record {
  own : l.hand.reader.table ≡ l.map;
  made : Made (FindsAtFirst l.room) ((l.fn.hand, l.fn.watch), l.fn.rows) l.fn.wanted l.place
      ((l.hand, l.watch), l.rows) l.wanted;
}
