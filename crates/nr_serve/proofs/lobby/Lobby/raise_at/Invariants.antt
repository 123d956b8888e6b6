use Rattle.std.proofs.Common.{[]}
use Rattle.nr_serve.specs.Counts.{Raises}
use Rattle.nr_serve.proofs.lobby.Lobby.raise_at.Given as goal

abbrev pub invariant-loop : goal.invariant-loop
invariant-loop g l = Raises [] l.fn.guest l.guest
