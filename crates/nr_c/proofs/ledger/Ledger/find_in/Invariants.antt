use Rattle.std.proofs.Common.{◌≡◌, ◌<◌, ◌≤◌}
use Rattle.nr_c.specs.declared.kept_upquery.NrUpquery.{NrUpquery}
use Rattle.nr_c.specs.Ledgers.{IsKept}
use Rattle.nr_c.proofs.ledger.Ledger.find_in.Given as goal

abbrev pub invariant-loop-way : goal.invariant-loop-way
invariant-loop-way l =
    (upquery : NrUpquery) → l.first ≤ upquery.way → upquery.way < l.way → upquery.id ≡ l.id → IsKept upquery l.self → ⊥
