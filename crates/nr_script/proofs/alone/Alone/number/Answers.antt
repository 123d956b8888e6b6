use Rattle.std.proofs.Common.{◌<◌, sym, ap, subst, ◌∙◌, arith}
use Rattle.nr_model.specs.Maps.{key_count, number_of, state_of}
use Rattle.nr_core.proofs.Histories.{length-now}
use Rattle.nr_script.specs.Alone.{log_of}
use Rattle.nr_script.specs.MapState.{MapState}
use Rattle.nr_script.proofs.Exactly.{number_is}
use Rattle.nr_script.proofs.alone.Alone.number.Goals as goal

pub number-requires-clause-key : goal.number-requires-clause-key
number-requires-clause-key c =
    let inside = c.self.inside in
    let low = subst (λ (s : MapState). c.args.key < key_count s.map) (sym c.self.view_is) c.requires in
    omega (arith, low, length-now inside.map.shape (log_of inside.writer inside.hands.items))

pub returns : goal.returns
returns c =
    let inside = c.self.inside in
    let low = subst (λ (s : MapState). c.args.key < key_count s.map) (sym c.self.view_is) c.requires in
    c.number.ensures.number
    ∙ number_is c.numbers_count_cancels.ensures c.legal_begins.ensures inside.map inside.writer inside.hands.items
    c.self.invariant c.args.key
    (omega (arith, low, length-now inside.map.shape (log_of inside.writer inside.hands.items)))
    ∙ ap (λ (s : MapState). number_of (state_of s.map c.args.key)) c.self.view_is
