use Rattle.std.proofs.Common.{arith, refl, ◌∙◌, ◌≡◌}
use Rattle.nr_map.proofs.HandSteps.{pinned_late}
use Rattle.nr_map.proofs.Pinning.{moves_by_hand}
use Rattle.nr_map.proofs.hand.Hand.move_to.Goals as goal
use Rattle.nr_map.proofs.hand.Hand.move_to.Goals.{in_default-via-in-Some+else-kept-gt0, in_default-via-in_default}

pub returns-in_default-clause-moves : goal.returns-in_default-clause-moves
returns-in_default-clause-moves c =
    let silent : c.self.inside.caller.seat.me.0.says ≡ 0 = elim c.in_default.branch [
      | in_default-via-in-Some+else-kept-gt0 w ↦
          (rw w.in-Some.is at c.self.invariant).holds.says ∙ omega (arith, w.if-kept-gt0.false)
      | in_default-via-in_default w ↦ (rw w.in_default.is at c.self.invariant).1.silent
    ] in
    pinned_late c.args.key c.args.word c.args.self.now c.pin.new.self c.pin.result c.requires.holds
    (rw (← c.self.view_is) silent) c.pin.ensures.pins

pub returns-in-Some-move_to-clause-moves : goal.returns-in-Some-move_to-clause-moves
returns-in-Some-move_to-clause-moves c =
    rw (← c.self.view_is, c.in-Some.is)
    (moves_by_hand c.in-Some.kept (record { key = c.args.key; set = c.in-Some-move_to.set })
    (rw c.in-Some.is at c.self.invariant) (omega (arith, c.if-kept-gt0.true)) refl c.in-Some-move_to.ensures)
