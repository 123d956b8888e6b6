use Rattle.std.proofs.Common.{◌≡◌, ℕ, ◌+◌, ◌*◌, ap, refl, rules, subst}
use Rattle.nr_ids.specs.Events.{HasMark}
use Rattle.nr_ids.specs.Groups.{group_of}
use Rattle.nr_ids.specs.Tokens.{token}
use Rattle.nr_ids.proofs.Admitting.{still_clerk}
use Rattle.nr_ids.proofs.MarkBits.{turned_are_marked}
use Rattle.nr_ids.proofs.directory.Directory.choose.Goals as goal

pub turn_marks-requires-clause-set : goal.turn_marks-requires-clause-set
turn_marks-requires-clause-set c = λ place low on. subst (λ (n : ℕ). HasMark n place) c.marks.ensures.value
    (turned_are_marked c.marks.result c.chosen-place.result.0 c.chosen-place.result.1 c.chosen-place.ensures.chooses
    place low on)

pub invariant_of-clerk : goal.invariant_of-clerk
invariant_of-clerk c =
    still_clerk (still_clerk c.clerk.invariant c.marks.ensures.caller c.marks.ensures.loads (λ _. refl) (λ _. refl))
    c.turn_marks.ensures.clerk c.turn_marks.ensures.turns (λ _. refl) (λ _. refl)

pub returns-clause-chooses : goal.returns-clause-chooses
returns-clause-chooses c =
    let place = c.chosen-place.result.0 in
    let of : c.group_of-group.result ≡ group_of c.args.self.now.plan c.args.id = search rules in
    record {
      looked = token c.marks.new.seat;
      looks = rw (← of, ← c.clerk.view_is) c.marks.ensures.loads;
      place = place;
      bits = c.chosen-place.result.1;
      chooses = rw (← of, ← c.marks.ensures.value) c.chosen-place.ensures.chooses;
      way_is = ap (λ (group : ℕ). 8 * group + place) of;
      turns = rw (← of) c.turn_marks.ensures.turns;
    }
