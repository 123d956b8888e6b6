-- What a source says that never fails.
use Rattle.std.specs.Prelude.{ℕ}

abbrev pub FailsNever : {S : Type 0} → S → (key bound : ℕ) → S → Type 0
FailsNever old key bound new = ⊥
