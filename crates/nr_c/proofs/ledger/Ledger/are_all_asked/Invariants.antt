use Rattle.std.proofs.Common.{◌<◌, ◌≤◌, ℕ}
use Rattle.nr_c.specs.Ledgers.{IsAsked}
use Rattle.nr_c.proofs.ledger.Ledger.are_all_asked.Given as goal

abbrev pub invariant-loop-way : goal.invariant-loop-way
invariant-loop-way l = (way : ℕ) → l.first ≤ way → way < l.way → IsAsked way l.self
