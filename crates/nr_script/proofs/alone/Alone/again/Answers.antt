use Rattle.nr_script.proofs.AfterLine.{again_ends, key_inside}
use Rattle.nr_script.proofs.alone.Alone.again.Goals as goal

pub again_at-requires-clause-key : goal.again_at-requires-clause-key
again_at-requires-clause-key c =
    key_inside c.self.inside.map c.self.inside.writer c.self.inside.hands.items _ c.args.key c.self.view_is
    c.requires.key

pub invariant_of-self-2 : goal.invariant_of-self-2
invariant_of-self-2 c =
    (again_ends c.laws.ensures c.self.inside.hands c.self.invariant c.args.at c.self.view_is c.requires.reader
    c.again_at.new.hand c.index_mut.ensures.value _ _ c.as_mut_slice.ensures.value c.as_mut_slice.ensures.len
    c.in_ok-answer.was c.gather_round.ensures c.args.key c.requires.key c.again_at.ensures).0

pub returns : goal.returns
returns c =
    (again_ends c.laws.ensures c.self.inside.hands c.self.invariant c.args.at c.self.view_is c.requires.reader
    c.again_at.new.hand c.index_mut.ensures.value _ _ c.as_mut_slice.ensures.value c.as_mut_slice.ensures.len
    c.in_ok-answer.was c.gather_round.ensures c.args.key c.requires.key c.again_at.ensures).1
