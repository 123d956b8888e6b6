use Rattle.std.proofs.Common.{◌*◌, ◌∙◌, Ok, ap, length, subst, sym}
use Rattle.nr_map.specs.Hands.{AsksInVain, CopiesHeld, FindsHeld, Handed, taken_for}
use Rattle.nr_script.specs.Answers as answers
use Rattle.nr_script.specs.Hands.{FindsAgain}
use Rattle.nr_script.proofs.Shown.{asks_in_vain, finds_again}
use Rattle.nr_script.proofs.alone.calls.again_at.Goals as goal

pub returns-then-not-found : goal.returns-then-not-found
returns-then-not-found c =
    let key = c.args.key in
    let old = c.args.hand.now in
    let asked = c.again-found.new.self in
    let was = sym c.key.ensures ∙ c.in-Some.is in
    let own = ap (λ (h : Handed). h.key) c.hold_for.ensures ∙ ap (taken_for key) was in
    subst (λ (h : Handed). FindsAgain key old h (Ok answers.Other)) (sym c.hold_for-2.ensures)
    (asks_in_vain key c.in-Some.pinned old asked was
    (subst (λ (h : Handed). AsksInVain key h asked) c.hold_for.ensures (c.if-not-found.ensures.again.0 own)))

pub returns : goal.returns
returns c =
    let key = c.args.key in
    let asked = c.again-found.new.self in
    let back = c.hold_for-2.ensures in
    let steps = 2 * length c.hold_for-2.new.self.rows in
    finds_again key c.in-Some.pinned c.args.hand.now asked (sym c.key.ensures ∙ c.in-Some.is) steps c.copy_to.new.self
    c.copy_to.new.rows
    (subst (λ (h : Handed). FindsHeld 1 key h asked) c.hold_for.ensures c.if-not-found.ensures.again)
    (subst (λ (h : Handed). CopiesHeld steps h c.copy_to.new.self) back c.copy_to.ensures.reads)
    (c.copy_to.ensures.copied ∙ ap (λ (h : Handed). h.rows) back)
