-- Which of several faults is told.
use Rattle.std.specs.Prelude.{ℕ, if◌then◌else◌, nat_le, Option, None, Some}
use Rattle.nr_load.specs.declared.fault.LoadFault.{LoadFault}
use Rattle.nr_load.specs.declared.fault.LoadFault.TheVariants.{Memory, Thread, Barred, WrongRows}

-- the index of a fault among their names
abbrev pub rank : LoadFault → ℕ
rank Memory = 0
rank Thread = 1
rank Barred = 2
rank WrongRows = 3

abbrev pub earlier : Option LoadFault → Option LoadFault → Option LoadFault
earlier None other = other
earlier (Some fault) None = Some fault
earlier (Some fault) (Some other) = if nat_le (rank fault) (rank other) then Some fault else Some other
