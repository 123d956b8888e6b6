-- A shape that no opening refuses fits its words, and its opening is a state of its own events.
use Rattle.std.proofs.Common.{ℕ, [], ◌<◌, ◌≤◌, refl, arith}
use Rattle.std.proofs.lemmas.Bool.{cases_lt}
use Rattle.nr_model.specs.Sizes.{IsBadSize}
use Rattle.nr_core.specs.Reach.{Reached}
use Rattle.nr_core.specs.Sizes.{IsBadShape, IsShape}
use Rattle.nr_core.specs.States.{opening_state}
use Rattle.nr_core.specs.declared.shape.Shape.{Shape}

good_size : (limit size : ℕ) → (IsBadSize limit size → ⊥) → (0 < size) × (size ≤ limit)
good_size limit size good = search (arith, cases_lt)

pub good_shape : (shape : Shape) → (IsBadShape shape → ⊥) → IsShape shape
good_shape shape good = search (arith, good_size, cases_lt)

pub opening_reached : (shape : Shape) → (IsBadShape shape → ⊥) → ∥ Reached (opening_state shape) ∥₁
opening_reached shape good = ∣ record { events = []; shape = good_shape shape good; given = tt; leads = refl } ∣₁
