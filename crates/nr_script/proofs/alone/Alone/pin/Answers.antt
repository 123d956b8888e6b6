use Rattle.nr_script.proofs.AfterLine.{key_inside, pin_ends}
use Rattle.nr_script.proofs.alone.Alone.pin.Goals as goal

pub pin_at-requires-clause-key : goal.pin_at-requires-clause-key
pin_at-requires-clause-key c =
    key_inside c.self.inside.map c.self.inside.writer c.self.inside.hands.items _ c.args.key c.self.view_is
    c.requires.key

pub invariant_of-self-2 : goal.invariant_of-self-2
invariant_of-self-2 c =
    (pin_ends c.laws.ensures c.self.inside.hands c.self.invariant c.args.at c.self.view_is c.requires.reader
    c.pin_at.new.hand c.index_mut.ensures.value _ _ c.as_mut_slice.ensures.value c.as_mut_slice.ensures.len
    c.in_ok-answer.was _ c.args.key c.requires.key c.pin_at.ensures.writer c.gather_round.ensures
    c.pin_at.ensures.made).0

pub returns : goal.returns
returns c =
    (pin_ends c.laws.ensures c.self.inside.hands c.self.invariant c.args.at c.self.view_is c.requires.reader
    c.pin_at.new.hand c.index_mut.ensures.value _ _ c.as_mut_slice.ensures.value c.as_mut_slice.ensures.len
    c.in_ok-answer.was _ c.args.key c.requires.key c.pin_at.ensures.writer c.gather_round.ensures
    c.pin_at.ensures.made).1
