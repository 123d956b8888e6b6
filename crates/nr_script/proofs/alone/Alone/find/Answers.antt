use Rattle.nr_model.specs.declared.calls.Call.TheVariants as model
use Rattle.nr_script.proofs.AfterLine.{call_ends, key_inside}
use Rattle.nr_script.proofs.alone.Alone.find.Goals as goal

pub find_at-requires-clause-key : goal.find_at-requires-clause-key
find_at-requires-clause-key c =
    key_inside c.self.inside.map c.self.inside.writer c.self.inside.hands.items _ c.args.key c.self.view_is
    c.requires.key

pub invariant_of-self-2 : goal.invariant_of-self-2
invariant_of-self-2 c =
    (call_ends c.laws.ensures c.self.inside.hands c.self.invariant c.args.at c.self.view_is c.requires.reader
    c.find_at.new.hand c.index_mut.ensures.value _ _ c.as_mut_slice.ensures.value c.as_mut_slice.ensures.len
    c.in_ok-answer.was _ (model.Find c.args.key) c.find_at.ensures.writer c.gather_round.ensures
    c.find_at.ensures.made).0

pub returns : goal.returns
returns c =
    (call_ends c.laws.ensures c.self.inside.hands c.self.invariant c.args.at c.self.view_is c.requires.reader
    c.find_at.new.hand c.index_mut.ensures.value _ _ c.as_mut_slice.ensures.value c.as_mut_slice.ensures.len
    c.in_ok-answer.was _ (model.Find c.args.key) c.find_at.ensures.writer c.gather_round.ensures
    c.find_at.ensures.made).1
