use Rattle.std.proofs.Common.{sym, subst}
use Rattle.nr_idmap.specs.Keepers.{IsTied}
use Rattle.nr_ids.specs.Looking.{IsFull}
use Rattle.nr_idserve.specs.IdFlows.{IdFlowSeen}
use Rattle.nr_idserve.proofs.IdRoom.{chooses_some}
use Rattle.nr_idserve.proofs.flow.IdDataflow.choose.Goals as goal

pub unreachable-requires : goal.unreachable-requires
unreachable-requires c =
    let tied = subst (λ (flow : IdFlowSeen). IsTied flow.writer) (sym c.self.view_is) c.requires.tied in
    let full = subst (λ (flow : IdFlowSeen). IsFull c.args.id flow.writer.clerk) (sym c.self.view_is) c.requires.full in
    chooses_some c.args.id c.self.inside.writer.clerk c.choose.new.writer.clerk tied.names.1 full
    c.in-None.ensures.chooses
