-- The end of what was asked for, and the line that is told, under their other names.
use Rattle.std.proofs.Common.{ℕ, ◌≡◌, List, Option, subst}
use Rattle.nr_prog.specs.declared.task.Task.{Task}
use Rattle.nr_prog.specs.Faults.{TellsLine}
use Rattle.nr_prog.specs.Program.{EndsTask}

pub asked_ends : (may_fail : Type 0) (done asked : Task) (status : ℕ) (had left held holds : Option (List ℕ))
    → done ≡ asked → EndsTask may_fail done status had left held holds
    → EndsTask may_fail asked status had left held holds
asked_ends may_fail done asked status had left held holds is ends =
    subst (λ (task : Task). EndsTask may_fail task status had left held holds) is ends

pub tells_line : (may_fail : Type 0) (held holds : Option (List ℕ)) (line other : List ℕ) → line ≡ other
    → TellsLine may_fail held holds line → TellsLine may_fail held holds other
tells_line may_fail held holds line other is tells =
    subst (λ (text : List ℕ). TellsLine may_fail held holds text) is tells
