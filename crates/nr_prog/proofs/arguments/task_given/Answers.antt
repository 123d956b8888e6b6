use Rattle.std.proofs.Common.{map, drop, string_bytes, sym, ap, ◌∙◌}
use Rattle.std.specs.Vec.Iter.{into_iter_items}
use Rattle.nr_prog.specs.Tasks.{task, task_given}
use Rattle.nr_prog.proofs.TaskLemmas.{first_tell}
use Rattle.nr_prog.proofs.arguments.task_given.Goals as goal

pub returns-clause-task : goal.returns-clause-task
returns-clause-task c =
    c.task_of.ensures.task
    ∙ (ap (λ words. task (map string_bytes words)) (c.as_slice.ensures.value ∙ c.words_of-words.ensures)
    ∙ (first_tell string_bytes (drop 1 (into_iter_items c.in-Ok.args)) ∙ ap (λ args. task_given args) (sym c.in-Ok.is)))
