use Rattle.std.proofs.Common.{◌<◌, ℕ, sym, subst, arith}
use Rattle.nr_model.specs.Maps.{SetFits, key_count}
use Rattle.nr_core.proofs.Histories.{bound-after, length-now}
use Rattle.nr_board.specs.Callers.{map_at_opening}
use Rattle.nr_script.specs.WriterCalls.{model_call, writer_key}
use Rattle.nr_script.specs.Alone.{log_of}
use Rattle.nr_script.specs.MapState.{MapState}
use Rattle.nr_script.proofs.AfterLine.{call_of_writer_ends}
use Rattle.nr_script.proofs.alone.Alone.call.Goals as goal

pub call_writer-answer-requires-clause-key : goal.call_writer-answer-requires-clause-key
call_writer-answer-requires-clause-key c =
    let low
    = subst (λ (s : MapState). writer_key c.args.call.now < key_count s.map) (sym c.self.view_is) c.requires.key in
    omega (arith, length-now c.self.inside.map.shape (log_of c.self.inside.writer c.self.inside.hands.items))

pub call_writer-answer-requires-clause-fits : goal.call_writer-answer-requires-clause-fits
call_writer-answer-requires-clause-fits c =
    let fits
    = subst (λ (s : MapState). SetFits s.map.bound (model_call c.args.call.now)) (sym c.self.view_is)
    c.requires.fits in
    subst (λ (n : ℕ). SetFits n (model_call c.args.call.now))
    (bound-after (log_of c.self.inside.writer c.self.inside.hands.items) (map_at_opening c.self.inside.map)) fits

pub invariant_of-self : goal.invariant_of-self
invariant_of-self c =
    (call_of_writer_ends c.laws.ensures c.self.inside.hands c.self.invariant c.self.view_is (model_call c.args.call.now)
    c.as_mut_slice.ensures.value c.as_mut_slice.ensures.len c.gather_round.ensures c.call_writer-answer.ensures).0

pub returns : goal.returns
returns c =
    (call_of_writer_ends c.laws.ensures c.self.inside.hands c.self.invariant c.self.view_is (model_call c.args.call.now)
    c.as_mut_slice.ensures.value c.as_mut_slice.ensures.len c.gather_round.ensures c.call_writer-answer.ensures).1
