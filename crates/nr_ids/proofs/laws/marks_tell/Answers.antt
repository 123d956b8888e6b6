use Rattle.std.proofs.Common.{◌%◌, [], ◌∷◌, arith}
use Rattle.std.proofs.lemmas.Nat.Bits.{bit_at-lt, bit_at-pow_other, bit_at-pow_same, bit_at-zero, bit_at_or, bit_at_xor}
use Rattle.std.proofs.lemmas.Bool.Decides.{nat_tests}
use Rattle.nr_ids.specs.Laws.{MarksTell}
use Rattle.nr_ids.proofs.laws.marks_tell.Goals as goal

-- a mark sets its own way's bit alone, and the clerk takes those that are set
marks_tell : MarksTell
marks_tell plan [] way legal = bit_at-zero (way % 8)
marks_tell plan (event ∷ log) way legal =
    let was = marks_tell plan log way legal.1 in let may = legal.0 in
    grind (arith, nat_tests, bit_at_or, bit_at-pow_same, bit_at-pow_other, bit_at-lt, bit_at_xor)

pub returns : goal.returns
returns c = marks_tell
