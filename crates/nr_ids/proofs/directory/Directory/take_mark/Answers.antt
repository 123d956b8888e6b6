use Rattle.nr_ids.specs.Tokens.{token}
use Rattle.std.proofs.Common.{refl}
use Rattle.nr_ids.proofs.Admitting.{still_clerk}
use Rattle.nr_ids.proofs.MarkBits.{bit_is_marked, shifted_bit}
use Rattle.nr_ids.proofs.directory.Directory.take_mark.Goals as goal

pub turn_marks-requires-clause-set : goal.turn_marks-requires-clause-set
turn_marks-requires-clause-set c =
    bit_is_marked (token c.has_mark.new.seat).seen c.args.way _ (shifted_bit c.args.way)
    (c.has_mark.ensures.looks.tells.0 c.if-not-has_mark.false)

pub invariant_of-clerk : goal.invariant_of-clerk
invariant_of-clerk c = let looked = c.has_mark.ensures in
    still_clerk c.clerk.invariant looked.caller looked.looks.looks (λ _. refl) (λ _. refl)

pub invariant_of-clerk-2 : goal.invariant_of-clerk-2
invariant_of-clerk-2 c = let looked = c.has_mark.ensures in
    still_clerk (still_clerk c.clerk.invariant looked.caller looked.looks.looks (λ _. refl) (λ _. refl))
    c.turn_marks.ensures.clerk c.turn_marks.ensures.turns (λ _. refl) (λ _. refl)
