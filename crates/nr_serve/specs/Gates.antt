-- What a gate says of a get.
use Rattle.std.specs.Prelude.{ℕ, Bool, true, false}
use Rattle.nr_serve.specs.declared.answers.Got.{Got}
use Rattle.nr_serve.specs.declared.answers.Got.TheVariants as got
use Rattle.nr_serve.specs.declared.answers.Tried.{Tried}
use Rattle.nr_serve.specs.declared.answers.Tried.TheVariants as tried

module _ {G : Type 0} (lets : G → ℕ → ℕ → Bool → Type 0) (hears : G → ℕ → ℕ → Type 0) where
  -- the gate was asked of this reader in that get: it let pass, and was told of the answer; or it didn't, in the end
  abbrev pub AsksGate : G → (reader get : ℕ) → Got → Type 0
  AsksGate gate reader get got.Rows = lets gate reader get true × hears gate reader get
  AsksGate gate reader get got.GaveUp = Unit {0}
  AsksGate gate reader get got.Barred = lets gate reader get false

  -- so it was in a try that found rows
  abbrev pub AsksOnce : G → (reader get : ℕ) → Tried → Type 0
  AsksOnce gate reader get (tried.Missed request) = Unit {0}
  AsksOnce gate reader get (tried.Ended got) = AsksGate gate reader get got
