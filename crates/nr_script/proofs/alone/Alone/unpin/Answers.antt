use Rattle.nr_script.proofs.AfterLine.{unpin_ends}
use Rattle.nr_script.proofs.alone.Alone.unpin.Goals as goal

pub invariant_of-self-2 : goal.invariant_of-self-2
invariant_of-self-2 c =
    (unpin_ends c.laws.ensures c.self.inside.hands c.self.invariant c.args.at c.self.view_is c.requires
    c.unpin_at.new.hand c.index_mut.ensures.value _ _ c.as_mut_slice.ensures.value c.as_mut_slice.ensures.len
    c.in_ok-answer.was c.gather_round.ensures c.unpin_at.ensures).0

pub returns : goal.returns
returns c =
    (unpin_ends c.laws.ensures c.self.inside.hands c.self.invariant c.args.at c.self.view_is c.requires
    c.unpin_at.new.hand c.index_mut.ensures.value _ _ c.as_mut_slice.ensures.value c.as_mut_slice.ensures.len
    c.in_ok-answer.was c.gather_round.ensures c.unpin_at.ensures).1
