use Rattle.std.proofs.Common.{◌∙◌}
use Rattle.nr_load.proofs.Settling.{flows_of, joined_count, none_refused, served}
use Rattle.nr_load.proofs.threads.serve_within.Goals as goal

pub returns : goal.returns
returns g c =
    let begun = c.start_workers-started.ensures in
    let kept = c.join_all-outcomes.ensures in
    record {
      served = served c.args.shared.now.plan.seed c.args.shared.now.plan.gets _ _ _ begun.readers kept;
      whole = λ whole. joined_count _ _ kept ∙ begun.whole (none_refused _ _ c.is_none.ensures whole);
      flowed = flows_of _ _ _ _ c.join-flowed.result c.in_ok-flow.ensures c.join-flowed.ensures;
    }
