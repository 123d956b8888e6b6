use Rattle.std.proofs.Common.{subst}
use Rattle.nr_board.specs.WriterAnswers.{UpdatesKey}
use Rattle.nr_idmap.specs.IdWrites.{CallsWay}
use Rattle.nr_idmap.specs.Keepers.{IdTable}
use Rattle.nr_idserve.specs.IdFlows.{IdFlowSeen}
use Rattle.nr_idserve.proofs.flow.IdDataflow.update.Goals as goal

pub returns-clause-updates : goal.returns-clause-updates
returns-clause-updates c =
    subst
    (λ (flow : IdFlowSeen). CallsWay (λ way. UpdatesKey flow.map.map.shape.rows way c.args.deltas.now) c.args.id
    flow.writer c.update.new.writer c.update.result)
    c.self.view_is
    (subst
    (λ (table : IdTable). CallsWay (λ way. UpdatesKey table.map.shape.rows way c.args.deltas.now) c.args.id
    c.self.inside.writer c.update.new.writer c.update.result)
    c.map.ensures c.update.ensures.updates)
