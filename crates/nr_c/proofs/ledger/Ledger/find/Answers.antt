use Rattle.std.proofs.Common.{inl}
use Rattle.nr_c.proofs.ledger.Ledger.find.Goals as goal

pub returns-in-Some : goal.returns-in-Some
returns-in-Some c = (inl c.in-Some.ensures.0, c.in-Some.ensures.1)
