use Rattle.std.proofs.Common.{ℕ, arith, subst}
use Rattle.nr_cache.specs.Places.{HoldsNoOther}
use Rattle.nr_cache.proofs.Placing.{no_values, owes_still}
use Rattle.nr_cache.proofs.limits.Limit.keep.Goals as goal

pub let_one_go-requires-clause-some : goal.let_one_go-requires-clause-some
let_one_go-requires-clause-some c none =
    let counts = c.count_values-count.ensures.counts in
    let empty =
    no_values c.is_tied.ensures (owes_still c.count_values-count.new.writer counts.rest.2 c.requires.owes)
    (subst (λ (way : ℕ). HoldsNoOther way c.count_values-count.new.writer) c.way-way.ensures none) in
    absurd (omega (arith, empty, counts.is, c.if-count-self.true, c.requires.some))
