use Rattle.std.proofs.Common.{◌≡◌, ◌≤◌, None, replicate, vec_capacity, vec_len}
use Rattle.nr_c.proofs.ledger.Ledger.empty.Given as goal

abbrev pub invariant-loop-way : goal.invariant-loop-way
invariant-loop-way l =
    (l.places.items ≡ replicate l._way None) × (vec_len l.places ≡ l._way) × (l.ways ≤ vec_capacity l.places)
