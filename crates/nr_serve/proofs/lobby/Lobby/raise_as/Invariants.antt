use Rattle.nr_serve.specs.Counts.{Raises, groups_below}
use Rattle.nr_serve.proofs.lobby.Lobby.raise_as.Given as goal

abbrev pub invariant-loop-group : goal.invariant-loop-group
invariant-loop-group g l = Raises (groups_below l.group) l.fn.guest l.guest
