-- Runs: what a run from a reader to a writer takes and writes.
use Rattle.std.specs.Prelude.{ℕ, ◌≡◌, ◌<◌, ◌≤◌, ◌⊎◌, List, ◌∷◌, ◌++◌, length, take, Option, Result, Ok, Err}
use Rattle.std.specs.Io.KnownBytes.{Consumes, Appends, IsAtEnd}
use Rattle.nr_text.specs.Lines.{lines, ended_lines}
use Rattle.nr_text.specs.Output.{IsCutShort}
use Rattle.nr_text.specs.declared.fault.RunFault.{RunFault}
use Rattle.nr_text.specs.declared.fault.RunFault.TheVariants as faults

-- the lines that were read whole: those that ended, and at the input's end the last one too
abbrev pub ReadWhole : List ℕ → Option (List ℕ) → List (List ℕ) → Type 0
ReadWhole taken left all = (all ≡ ended_lines taken) ⊎ (IsAtEnd left × (all ≡ lines taken))

-- what was written, by how the run ended, the bytes that it took and what its reader has left
abbrev pub Writes : (List (List ℕ) → List ℕ) → ℕ → Result (Unit {0}) RunFault → List ℕ → Option (List ℕ) → List ℕ
    → Type 0
-- the input was read to its end, and its whole text was written
Writes text limit (Ok _) taken left written = (length taken ≤ limit) × IsAtEnd left × (written ≡ text (lines taken))
-- the whole text of the lines that ended before
Writes text limit (Err faults.Read) taken left written = written ≡ text (ended_lines taken)
-- the input goes on past the limit, and the lines that ended within it were answered
Writes text limit (Err faults.TooMuch) taken left written =
    (limit < length taken) × (written ≡ text (ended_lines (take limit taken)))
-- the text of the lines that were read whole, with something missing
Writes text limit (Err faults.Write) taken left written =
    (all : List (List ℕ)) × ReadWhole taken left all × IsCutShort (text all) written
-- the whole text of the lines before one that was read whole
Writes text limit (Err faults.Memory) taken left written =
    (done : List (List ℕ)) × (line : List ℕ) × (more : List (List ℕ)) × ReadWhole taken left (done ++ line ∷ more)
    × (written ≡ text done)

-- A run takes some bytes from its reader and adds some to its writer, and these are as it ended.
abbrev pub Runs : (List (List ℕ) → List ℕ) → ℕ → Result (Unit {0}) RunFault → Option (List ℕ) → Option (List ℕ)
    → Option (List ℕ) → Option (List ℕ) → Type 0
Runs text limit result had left held holds =
    (taken : List ℕ) × (written : List ℕ) × Consumes had left taken × Appends held holds written
    × Writes text limit result taken left written
