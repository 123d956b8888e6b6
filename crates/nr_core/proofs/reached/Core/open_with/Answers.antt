use Rattle.std.proofs.Common.{◌≡◌, rules, subst, sym}
use Rattle.nr_core.proofs.Shapes.{opening_reached}
use Rattle.nr_core.specs.Parts.{machine_state}
use Rattle.nr_core.specs.Reach.{Reached}
use Rattle.nr_core.specs.Sizes.{IsBadShape}
use Rattle.nr_core.specs.States.{State, opening_state}
use Rattle.nr_core.proofs.reached.Core.open_with.Goals as goal

pub invariant_of-result : goal.invariant_of-result
invariant_of-result c =
    let is : machine_state c.in_ok-machine.machine ≡ opening_state c.args.shape.now = search rules in
    let good : IsBadShape c.args.shape.now → ⊥ = search rules in
    subst (λ (s : State). ∥ Reached s ∥₁) (sym is) (opening_reached c.args.shape.now good)
