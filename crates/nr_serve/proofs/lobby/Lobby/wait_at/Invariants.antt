use Rattle.nr_serve.specs.Counts.{OnlyLooks}
use Rattle.nr_serve.proofs.lobby.Lobby.wait_at.Given as goal

abbrev pub invariant-loop : goal.invariant-loop
invariant-loop g l = OnlyLooks l.fn.guest l.guest
