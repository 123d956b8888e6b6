use Rattle.std.proofs.Common.{ap, sym, ◌∙◌}
use Rattle.nr_load.proofs.Turning.{flows_all}
use Rattle.nr_load.proofs.flow.flow_on.Goals as goal

pub returns-clause-flows : goal.returns-clause-flows
returns-clause-flows g c =
    let opened = c.of_service-flow.ensures.flow in
    flows_all c.args.writer c.args.taker c.of_service-flow.result c.turn_all-fills.new.flow c.turn_all-fills.result.0
    c.turn_all-fills.result.1 c.end-writer.result.0 c.end-writer.result.1 c.end-guest.result
    (ap (λ f. f.map) opened ∙ sym c.requires.own) (ap (λ f. f.writer) opened) (ap (λ f. f.taker) opened)
    c.end-writer.ensures.writer c.end-writer.ensures.taker c.turn_all-fills.ensures
