use Rattle.std.proofs.Common.{rules, ◌≡◌, ◌<◌, ◌+◌, ◌*◌, ℕ, ap, arith, subst, sym, ◌∙◌}
use Rattle.std.specs.Int.{bit_at}
use Rattle.std.proofs.lemmas.Nat.Bits.{bit_at-zero}
use Rattle.nr_ids.specs.Events.{hint_at, IsLegal}
use Rattle.nr_ids.specs.Groups.{hint_of, ways}
use Rattle.nr_ids.specs.Tokens.{Opened, token}
use Rattle.nr_ids.proofs.Calls.{grows_none, way_inside}
use Rattle.nr_ids.proofs.Through.{begun, found_here, passed_all, passed_here}
use Rattle.nr_ids.proofs.directory.Directory.scan_group.Goals as goal

pub loop-left-init : goal.loop-left-init
loop-left-init c =
    let old = token c.args.seat.now in
    let hinted = c.look_at_hints-hints in
    let hint_is : c.hint_of-hint.result ≡ hint_of old.directory.plan c.args.id = search rules in
    let legal : IsLegal (token hinted.new.seat).directory.plan (token hinted.new.seat).seen = search rules in
    record {
      sits = hinted.ensures.caller;
      so_far =
          begun c.args.id c.args.group c.requires.id old (token hinted.new.seat) c.fitting-left.result
          hinted.ensures.grows c.fitting-left.ensures.few
          (λ place near. let fits = c.fitting-left.ensures.fits place near in
          let same = ap (λ (n : ℕ). hint_at n place) hinted.ensures.value in (
            λ on. sym same ∙ fits.0 on ∙ hint_is,
            λ its. fits.1 (same ∙ its ∙ sym hint_is),
          ))
          (grows_none (token hinted.new.seat) legal);
    }

pub returns-then-look-id-clause-scans : goal.returns-then-look-id-clause-scans
returns-then-look-id-clause-scans c =
    let at : ℕ = c.first.result in
    let group = c.args.group in
    let look = c.look.ensures in
    found_here c.args.id group c.requires.id (token c.args.seat.now) (token c.loop-left.seat) (token c.look.new.seat)
    c.loop-left.left at c.loop-left.invariant.so_far c.first.ensures.first c.first.ensures.inside look.grows
    (subst (λ (d : Opened). 8 * group + at < ways d.plan) (sym c.requires.caller.own)
    (way_inside group c.args.self.now.plan.groups at c.requires.group c.first.ensures.inside))
    (sym look.value ∙ c.if-look-id.true)

pub loop-left-preserved : goal.loop-left-preserved
loop-left-preserved c =
    let at : ℕ = c.first.result in
    let look = c.look.ensures in
    record {
      sits = look.caller;
      so_far =
          passed_here c.args.id c.args.group c.requires.id (token c.args.seat.now) (token c.loop-left.seat)
          (token c.look.new.seat) c.loop-left.left at c.loop-left.invariant.so_far c.first.ensures.first
          c.first.ensures.inside look.grows c.others-left.result c.others-left.ensures.fewer
          (λ has. c.if-look-id.false (look.value ∙ has)) c.others-left.ensures.others;
    }

pub returns-clause-scans : goal.returns-clause-scans
returns-clause-scans c =
    let none : c.loop-left.left ≡ 0 = omega (arith, c.loop-left-test.false) in
    passed_all c.args.id c.args.group c.requires.id (token c.args.seat.now) (token c.loop-left.seat) c.loop-left.left
    c.loop-left.invariant.so_far (λ place. ap (λ (n : ℕ). bit_at n place) none ∙ bit_at-zero place)
