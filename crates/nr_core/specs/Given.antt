-- What a call of the writer may bring.
use Rattle.std.specs.Prelude.{ℕ}
use Rattle.nr_model.specs.Rows.{IsRowSet}
use Rattle.nr_core.specs.declared.calls.WriterCall.{WriterCall}
use Rattle.nr_core.specs.declared.calls.WriterCall.TheVariants.{Fill, Replace}

-- the sets that calls bring are row sets
abbrev pub IsGivenCall : ℕ → WriterCall → Type 0
IsGivenCall bound (Fill at number rows) = IsRowSet bound rows
IsGivenCall bound (Replace at rows) = IsRowSet bound rows
IsGivenCall bound other = Unit {0}
