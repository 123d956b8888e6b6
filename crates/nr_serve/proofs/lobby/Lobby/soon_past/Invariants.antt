use Rattle.nr_serve.specs.Counts.{OnlyLooks}
use Rattle.nr_serve.proofs.lobby.Lobby.soon_past.Given as goal

abbrev pub invariant-loop : goal.invariant-loop
invariant-loop l = OnlyLooks l.fn.guest l.guest
