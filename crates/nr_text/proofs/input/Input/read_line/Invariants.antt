use Rattle.nr_text.specs.Input.{allowance}
use Rattle.nr_text.proofs.InputLemmas.{PartTaken}
use Rattle.nr_text.proofs.input.Input.read_line.Given as goal

abbrev pub invariant-bytes : goal.invariant-bytes
invariant-bytes g l = PartTaken l.fn.self l.self (g.R.Read.remaining l.fn.reader) (g.R.Read.remaining l.reader) l.line

abbrev pub decreases-bytes : goal.decreases-bytes
decreases-bytes g l = allowance l.self
