-- How the program ends: its exit status, and its last lines where it has some.
use Rattle.std.specs.Prelude.{ℕ, ◌≡◌, ◌⊎◌, List, Option, Ok, Err}
use Rattle.nr_text.specs.declared.fault.RunFault.{RunFault}
use Rattle.nr_text.specs.Limits.{longest_input}
use Rattle.nr_text.specs.Run.{Runs}
use Rattle.nr_prog.specs.ScheduleMachine.{schedule_text}
use Rattle.nr_script.specs.Machine.{script_text}
use Rattle.nr_prog.specs.declared.task.Task.{Task}
use Rattle.nr_prog.specs.declared.task.Task.TheVariants.{Script, Schedule, Load, Explain}
use Rattle.nr_prog.specs.Faults.{TellsLine, line_of, line_of_misuse}
use Rattle.nr_prog.specs.Loads.{EndsLoad}

-- A run ends with a fault, and then that fault's line is written, or some of it where a write may fail.
abbrev pub TellsFault : Type 0 → (List (List ℕ) → List ℕ) → ℕ → Option (List ℕ) → Option (List ℕ) → Option (List ℕ)
    → Option (List ℕ) → Type 0
TellsFault may_fail text limit had left held holds =
    (fault : RunFault) × (ran : Option (List ℕ)) × Runs text limit (Err fault) had left held ran
    × TellsLine may_fail ran holds (line_of fault)

-- a run to the input's end, with status 0, or to a fault that is told, with status 1
abbrev pub EndsRun : Type 0 → (List (List ℕ) → List ℕ) → ℕ → ℕ → Option (List ℕ) → Option (List ℕ) → Option (List ℕ)
    → Option (List ℕ) → Type 0
EndsRun may_fail text limit status had left held holds =
    ((status ≡ 0) × Runs text limit (Ok tt) had left held holds)
    ⊎ ((status ≡ 1) × TellsFault may_fail text limit had left held holds)

-- each task's end; words that ask for nothing have their line, with status 2
abbrev pub EndsTask : Type 0 → Task → ℕ → Option (List ℕ) → Option (List ℕ) → Option (List ℕ) → Option (List ℕ) → Type 0
EndsTask may_fail Script status had left held holds =
    EndsRun may_fail script_text longest_input status had left held holds
EndsTask may_fail Schedule status had left held holds =
    EndsRun may_fail schedule_text longest_input status had left held holds
EndsTask may_fail (Load plan) status had left held holds = EndsLoad may_fail plan status held holds
EndsTask may_fail (Explain misuse) status had left held holds =
    (status ≡ 2) × TellsLine may_fail held holds (line_of_misuse misuse)

-- what the task reads
abbrev pub ReadsNothing : Task → Type 0
ReadsNothing Script = ⊥
ReadsNothing Schedule = ⊥
ReadsNothing (Load plan) = Unit {0}
ReadsNothing (Explain misuse) = Unit {0}
