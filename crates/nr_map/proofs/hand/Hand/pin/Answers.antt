use Rattle.std.proofs.Common.{ap, refl, sym}
use Rattle.nr_map.proofs.Pinning.{pins_by_hand}
use Rattle.nr_map.specs.Hands.{Handed}
use Rattle.nr_map.proofs.hand.Hand.pin.Goals as goal

pub returns-in-Some-clause-pins : goal.returns-in-Some-clause-pins
returns-in-Some-clause-pins c =
    pins_by_hand (rw c.map.view_is at c.in-Some.ensures) c.release.ensures.lets_go
    (sym (ap (λ (h : Handed). h.reader) c.self.view_is)) (record { key = c.args.key; set = c.in-Some.set }) refl
