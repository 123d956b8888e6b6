use Rattle.nr_script.proofs.AfterLine.{show_ends}
use Rattle.nr_script.proofs.alone.Alone.show.Goals as goal

pub invariant_of-self-2 : goal.invariant_of-self-2
invariant_of-self-2 c =
    (show_ends c.laws.ensures c.self.inside.hands c.self.invariant c.args.at c.self.view_is c.requires
    c.show_at.new.hand c.index_mut.ensures.value _ _ c.as_mut_slice.ensures.value c.as_mut_slice.ensures.len
    c.in_ok-answer.was c.gather_round.ensures c.show_at.ensures).0

pub returns : goal.returns
returns c =
    (show_ends c.laws.ensures c.self.inside.hands c.self.invariant c.args.at c.self.view_is c.requires
    c.show_at.new.hand c.index_mut.ensures.value _ _ c.as_mut_slice.ensures.value c.as_mut_slice.ensures.len
    c.in_ok-answer.was c.gather_round.ensures c.show_at.ensures).1
