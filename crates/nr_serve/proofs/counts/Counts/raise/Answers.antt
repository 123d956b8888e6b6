use Rattle.std.proofs.Common.{rules, arith}
use Rattle.nr_serve.proofs.Counting.{raises}
use Rattle.nr_serve.proofs.counts.Counts.raise.Goals as goal

pub compare_exchange-found-requires : goal.compare_exchange-found-requires
compare_exchange-found-requires c = (
  search rules,
  omega (arith, c.self.invariant, c.requires.place.0),
  raises _ _ _ _ _ _ c.requires.place.0 c.requires.place.1 c.requires.next (search rules),
)
