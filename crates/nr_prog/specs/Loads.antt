-- What the program tells of a load.
use Rattle.std.specs.Prelude.{ℕ, ◌≡◌, ◌+◌, ◌==◌, ◌⊎◌, Bool, if◌then◌else◌, List, ◌++◌, codes, Option, Result, Ok, Err}
use Rattle.std.specs.Fmt.{decimal}
use Rattle.std.specs.Io.KnownBytes.{Appends}
use Rattle.nr_text.specs.declared.fault.RunFault.TheVariants as faults
use Rattle.nr_text.specs.Output.{AppendsSome}
use Rattle.nr_load.specs.declared.fault.LoadFault.{LoadFault}
use Rattle.nr_load.specs.declared.fault.LoadFault.TheVariants as load_faults
use Rattle.nr_load.specs.declared.load.LoadReport.{LoadReport}
use Rattle.nr_load.specs.declared.load.Plan.{Plan}
use Rattle.nr_load.specs.Reports.{ComesTo}
use Rattle.nr_prog.specs.Faults.{TellsLine, line, line_of}

-- each request that was sent was filled or is still pending
abbrev pub is_balanced : LoadReport → Bool
is_balanced report = report.sends == report.fills + report.asked

abbrev pub balance_word : LoadReport → List ℕ
balance_word report = if is_balanced report then codes "ok" else codes "off"

-- the three lines of a report
abbrev pub report_text : LoadReport → List ℕ
report_text report =
    codes "gets " ++ decimal report.gets ++ codes "\nanswered " ++ decimal report.answered ++ codes "\nbalance "
    ++ balance_word report ++ codes "\n"

-- 0 where each get was answered and the account balances
abbrev pub report_status : LoadReport → ℕ
report_status report = if report.answered == report.gets then (if is_balanced report then 0 else 1) else 1

-- the line of a load's fault
abbrev pub line_of_load : LoadFault → List ℕ
line_of_load load_faults.Memory = line (codes "nr: no memory")
line_of_load load_faults.Thread = line (codes "nr: a thread could not be started")
line_of_load load_faults.Barred = line (codes "nr: a gate did not open")
line_of_load load_faults.WrongRows = line (codes "nr: a get gave wrong rows")

-- what a load may come to: the report of a history in which each reader made all its gets, or a fault
abbrev pub MayComeTo : Plan → Result LoadReport LoadFault → Type 0
MayComeTo plan (Ok report) = ComesTo plan report
MayComeTo plan (Err fault) = Unit {0}

-- The report is written, or some of it where a write may fail, and the line of that fault; a load's fault has its line
-- alone.
abbrev pub TellsLoad : Type 0 → Result LoadReport LoadFault → ℕ → Option (List ℕ) → Option (List ℕ) → Type 0
TellsLoad may_fail (Ok report) status held holds =
    ((status ≡ report_status report) × Appends held holds (report_text report))
    ⊎ (may_fail × (status ≡ 1) × (wrote : Option (List ℕ)) × AppendsSome held wrote (report_text report)
    × TellsLine may_fail wrote holds (line_of faults.Write))
TellsLoad may_fail (Err fault) status held holds = (status ≡ 1) × TellsLine may_fail held holds (line_of_load fault)

-- a load of this plan is run, and what it came to is told
abbrev pub EndsLoad : Type 0 → Plan → ℕ → Option (List ℕ) → Option (List ℕ) → Type 0
EndsLoad may_fail plan status held holds =
    (ended : Result LoadReport LoadFault) × MayComeTo plan ended × TellsLoad may_fail ended status held holds
