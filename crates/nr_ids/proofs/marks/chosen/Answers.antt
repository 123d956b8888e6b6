use Rattle.std.proofs.Common.{◌≡◌, ℕ, arith, inl, inr, refl, sym, ◌∙◌}
use borrow.Author.Count.{below_more}
use Rattle.nr_ids.specs.Events.{HasMark}
use Rattle.nr_ids.proofs.MarkBits.{bits_on, chosen_so, unmarked}
use Rattle.nr_ids.specs.Marks.{begin_of, place_after}
use Rattle.nr_ids.proofs.marks.chosen.Goals as goal

pub loop-step-preserved : goal.loop-step-preserved
loop-step-preserved c = let was = c.loop-step.invariant in let low = c.loop-step-test.true in record {
  bits = bits_on c.args.marks c.loop-step.passed c.loop-step.step was.bits;
  marked = below_more (λ step. HasMark c.args.marks (place_after (begin_of c.args.marks) step)) c.loop-step.step
      was.marked (c.has_bit.ensures.0 c.if-not-has_bit.false);
  few = omega (arith, low);
}

pub returns-then-not-has_bit-clause-chooses : goal.returns-then-not-has_bit-clause-chooses
returns-then-not-has_bit-clause-chooses c =
    let was = c.loop-step.invariant in
    let place : ℕ = place_after (begin_of c.args.marks) c.loop-step.step in
    chosen_so c.args.marks place c.loop-step.passed c.moved.result c.loop-step.step was.few refl was.marked
    (inl (unmarked c.args.marks place (λ on. absurd (cc (sym (c.has_bit.ensures.1 on) ∙ c.if-not-has_bit.true)))))
    was.bits c.moved.ensures

pub returns-clause-chooses : goal.returns-clause-chooses
returns-clause-chooses c =
    let was = c.loop-step.invariant in
    let all : c.loop-step.step ≡ 8 = omega (arith, was.few, c.loop-step-test.false) in
    chosen_so c.args.marks (begin_of c.args.marks) c.loop-step.passed c.moved-2.result c.loop-step.step was.few
    (omega (arith, all)) was.marked (inr all) was.bits c.moved-2.ensures
