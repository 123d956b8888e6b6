use Rattle.std.proofs.Common.{ap, arith, refl, subst, sym, ◌∙◌, ◌<◌, ◌≡◌, ◌≢◌, Some}
use Rattle.nr_board.proofs.ReaderSeats.{names_held}
use Rattle.nr_map.proofs.HandSteps.{asked_anew, looked_anew, looked_in_vain, pinned_none, pinned_other}
use Rattle.nr_map.specs.Hands.{Handed, KeepsByHand, handed, key_held}
use Rattle.nr_map.proofs.hand.Hand.keep.Goals as goal

pub returns-then-kept-key-clause-keeps : goal.returns-then-kept-key-clause-keeps
returns-then-kept-key-clause-keeps c =
    let before = c.self.inside.caller.seat in
    let after = c.look_again-word.new.seat in
    let held = c.self.inside.held in
    let told = c.look_again-word.ensures in
    let slot = c.in-Some.kept.set.slot in let word = c.look_again-word.result in
    let key_is : key_held held ≡ Some c.args.key
    = rw c.in-Some.is (ap Some (omega (arith, c.if-kept-key.true))) in
    let gone = names_held slot word ∙ sym c.names.ensures ∙ c.if-names.false in
    let vain
    = looked_in_vain before after held told.role told.says slot word told.holds gone (told.other gone) told.exact
    told.marks in
    subst (λ (h : Handed). KeepsByHand c.args.key h c.move_to.new.self c.move_to.result) c.self.view_is
    (asked_anew word c.move_to.new.self vain.0 key_is vain.1
    c.move_to.result c.move_to.ensures.moves)

pub returns-clause-keeps : goal.returns-clause-keeps
returns-clause-keeps c =
    let before = c.self.inside.caller.seat in
    let after = c.look_ahead-word.new.seat in
    let held = c.self.inside.held in
    let told = c.look_ahead-word.ensures in
    let kept = c.in-Some.kept in
    let key_is : key_held held ≡ Some kept.key = rw c.in-Some.is refl in
    let pins = rw c.in-Some.is at c.self.invariant in
    let loud : 0 < before.me.0.says = omega (arith, pins.holds.says, c.if-kept-eq0.false) in
    let apart : kept.key ≢ c.args.key = λ e. absurd (c.if-kept-key.false e) in
    subst (λ (h : Handed). KeepsByHand c.args.key h c.move_to-2.new.self c.move_to-2.result) c.self.view_is
    (looked_anew c.look_ahead-word.result (handed before held) (handed after held)
    c.move_to-2.new.self key_is apart loud told.step refl c.move_to-2.result c.move_to-2.ensures.moves)

pub returns-in_default-clause-keeps : goal.returns-in_default-clause-keeps
returns-in_default-clause-keeps c =
    pinned_none c.args.key c.args.self.now c.pin.new.self c.pin.result
    (rw (← c.self.view_is, c.in_default.is) refl) c.pin.ensures.pins

pub returns-then-kept-eq0-clause-keeps : goal.returns-then-kept-eq0-clause-keeps
returns-then-kept-eq0-clause-keeps c =
    let kept = c.in-Some.kept in
    let pins = rw c.in-Some.is at c.self.invariant in
    let apart : kept.key ≢ c.args.key = λ e. absurd (c.if-kept-key.false e) in
    pinned_other c.args.key kept.key c.args.self.now c.pin-then-kept-eq0.new.self c.pin-then-kept-eq0.result
    (rw (← c.self.view_is, c.in-Some.is) refl) apart
    (rw (← c.self.view_is) (pins.holds.says ∙ c.if-kept-eq0.true)) c.pin-then-kept-eq0.ensures.pins
