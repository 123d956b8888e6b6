use Rattle.std.proofs.Common.{◌≡◌, arith, inl, inr}
use Rattle.std.proofs.lemmas.Bool.{cases_lt}
use Rattle.nr_c.proofs.ledger.Ledger.find_in.Goals as goal

pub loop-way-preserved : goal.loop-way-preserved
loop-way-preserved c upquery from below id kept = elim (cases_lt upquery.way c.loop-way.way) [
  | inl low ↦ c.loop-way.invariant upquery from low id kept
  | inr high ↦ let at : upquery.way ≡ c.loop-way.way = omega (arith, below, high) in
      c.in_default.ensures upquery (at, id) kept
]
