-- The lines that the program writes of faults, and of words that it can do nothing with.
use Rattle.std.specs.Prelude.{ℕ, ◌⊎◌, List, [], ◌∷◌, ◌++◌, Option, codes}
use Rattle.std.specs.Io.KnownBytes.{Appends}
use Rattle.nr_text.specs.declared.fault.RunFault.{RunFault}
use Rattle.nr_text.specs.declared.fault.RunFault.TheVariants as faults
use Rattle.nr_text.specs.Lines.{line_feed}
use Rattle.nr_text.specs.Output.{AppendsSome}
use Rattle.nr_prog.specs.declared.task.Misuse.{Misuse}
use Rattle.nr_prog.specs.declared.task.Misuse.TheVariants as misuse

abbrev pub line : List ℕ → List ℕ
line text = text ++ line_feed ∷ []

-- the line of a run's fault
abbrev pub line_of : RunFault → List ℕ
line_of faults.Read = line (codes "nr: the input could not be read")
line_of faults.Write = line (codes "nr: the output could not be written")
line_of faults.Memory = line (codes "nr: no memory")
line_of faults.TooMuch = line (codes "nr: the input is over 268435456 bytes")

-- how the program is used, or what a number of a load must be
abbrev pub line_of_misuse : Misuse → List ℕ
line_of_misuse misuse.Words = line (codes "nr: usage: nr, nr steps, nr load SEED READERS KEYS GETS")
line_of_misuse misuse.Seed = line (codes "nr: seed must be 0 to 18446744073709551615")
line_of_misuse misuse.Readers = line (codes "nr: readers must be 1 to 1024")
line_of_misuse misuse.Keys = line (codes "nr: keys must be 1 to 65536")
line_of_misuse misuse.Gets = line (codes "nr: gets must be 0 to 1000000")

-- a line is written, all of it, or some where a write may fail
abbrev pub TellsLine : Type 0 → Option (List ℕ) → Option (List ℕ) → List ℕ → Type 0
TellsLine may_fail held holds line = Appends held holds line ⊎ (may_fail × AppendsSome held holds line)
