-- The source that a dataflow lends.
use Rattle.std.specs.Borrow.{Fml, Lends, MutBor, RattleType}
use Rattle.std.specs.Prelude.{[]}
use mir.Syntax.{named}
use Rattle.nr_serve.specs.contracts.dataflow.Dataflow.{the_row}
use Rattle.nr_serve.specs.Flows.{FlowSeen}

module _ (S : RattleType) (flow : MutBor (FlowSeen S.Denot)) where
  -- once the borrow ends, the source is what was left behind it, and everything else is as it was
  abbrev pub LendsSource : MutBor S.Denot → Fml
  LendsSource lent =
      Lends (the_row (record { mir = named 1; lft = [] }) S) S flow lent (λ source. record flow.now { source = source })
