use Rattle.std.proofs.Common.{◌≡◌, ℕ, List, ◌++◌, length}
use Rattle.std.specs.Io.KnownBytes.{Appends}
use Rattle.nr_text.proofs.output.write_all.Given as goal

abbrev pub invariant-rest : goal.invariant-rest
invariant-rest g l =
    (sent : List ℕ) × (l.fn.bytes ≡ sent ++ l.rest)
    × Appends (g.W.Write.contents l.fn.writer) (g.W.Write.contents l.writer) sent

abbrev pub decreases-rest : goal.decreases-rest
decreases-rest g l = length l.rest
