use Rattle.std.proofs.Common.{◌≡◌, ℕ, arith, inl, inr, subst}
use Rattle.std.proofs.lemmas.Bool.{cases_lt}
use Rattle.nr_c.specs.Ledgers.{IsAsked}
use Rattle.nr_c.proofs.ledger.Ledger.are_all_asked.Goals as goal

pub loop-way-preserved : goal.loop-way-preserved
loop-way-preserved c way from below = elim (cases_lt way c.loop-way.way) [
  | inl low ↦ c.loop-way.invariant way from low
  | inr high ↦ let at : c.loop-way.way ≡ way = omega (arith, below, high) in
      subst (λ (n : ℕ). IsAsked n c.args.self.now) at c.if-not-is_asked.ensures.asked
]
