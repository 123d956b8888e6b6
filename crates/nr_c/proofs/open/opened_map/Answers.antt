use Rattle.std.proofs.Common.{◌<◌, ◌+◌, ℕ, ⊎_elim, inl, inr, arith}
use Rattle.nr_model.specs.Sizes.{IsBadSize}
use Rattle.nr_core.specs.Sizes.{IsBadLargeShape, IsBadShape}
use Rattle.nr_core.specs.declared.shape.Shape.{Shape}
use Rattle.nr_c.proofs.open.opened_map.Goals as goal

narrower : (few many size : ℕ) → few < many + 1 → IsBadSize many size → IsBadSize few size
narrower few many size is bad = ⊎_elim (λ none. inl none) (λ above. inr (omega (arith, is, above))) bad

bad_of_large : (shape : Shape) → IsBadLargeShape shape → IsBadShape shape
bad_of_large shape bad = ⊎_elim (λ slots. inr (inl (narrower 131072 4194303 shape.slots (omega arith) slots)))
    (λ rest. ⊎_elim (λ none. inl (inl none))
    (λ more. ⊎_elim (λ readers. inr (inr (inl (narrower 1024 65535 shape.readers (omega arith) readers))))
    (λ last. ⊎_elim (λ number. inr (inr (inr (inl number)))) (λ rows. inr (inr (inr (inr rows)))) last) more) rest) bad

pub returns-clause-bad_size : goal.returns-clause-bad_size
returns-clause-bad_size c = (
  (λ e. let large = c.open_large.ensures.bad_size.0 e in (bad_of_large c.args.shape.now large, large)),
  (λ bad. c.open_large.ensures.bad_size.1 bad.1),
)
